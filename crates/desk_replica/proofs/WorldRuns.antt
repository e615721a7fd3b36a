-- Every run keeps what a world keeps, and no run reuses an identifier.
use Rattle.std.proofs.Common.{◌≡◌, ◌≢◌, ◌<◌, ℕ, zero, suc, List, [], ◌∷◌, length, Some, ◌⊎◌, inl, inr, refl, sym, ap, subst, ◌∙◌, arith}
use Rattle.std.specs.Prelude.{Contains, slice_get, replicate}
use Rattle.std.proofs.lemmas.List.{length-replicate}
use Rattle.std.proofs.lemmas.List.Elements.{Contains-append_left, Contains-append_right}
use Rattle.std.proofs.lemmas.Bool.Decides.{eqb_tells}
use Rattle.std.specs.FinMap as map
use Rattle.bg_types.specs.Identifier.{Identifier, IsIdentifier}
use Rattle.bg_types.specs.OperationSet.{OperationSet, AllWellFormed, Agree, Holds, no_operations, with_operation, union, next}
use Rattle.bg_types.specs.declared.op.Place.{Place}
use Rattle.bg_types.specs.declared.op.Place.TheVariants.{Root, After}
use Rattle.bg_types.specs.declared.op.OpView.{OpView}
use Rattle.bg_types.specs.declared.op.OpView.TheVariants.{Insert, Erase as EraseOp}
use Rattle.bg_types.proofs.Interface.{some_is, Holds-no_operations, Holds-with_operation, Holds-union}
use Rattle.rga_tree.specs.Parts.{IsPartOf}
use Rattle.rga_tree.specs.Attached.{IsAttached, below_root, below}
use Rattle.rga_tree.proofs.Interface.{AllWellFormed-part}
use Rattle.desk_replica.specs.declared.answer.TakeFault.{TakeFault}
use Rattle.desk_replica.specs.declared.answer.TakeFault.TheVariants.{IdentifierReused, Full, Memory}
use Rattle.desk_replica.specs.declared.world.step.Step.{Step}
use Rattle.desk_replica.specs.declared.world.step.Step.TheVariants.{Typed, Erase, Deliver, Merge}
use Rattle.desk_replica.specs.declared.world.step.Reply.{Reply}
use Rattle.desk_replica.specs.declared.world.step.Reply.TheVariants.{Done, Refused, NoSuch}
use Rattle.desk_replica.specs.Codes.{take_code}
use Rattle.desk_replica.specs.Merging.{IsBetween, IsMergeRefused}
use Rattle.desk_replica.specs.DeskSets.{set_at, with_set, takes, merges, IsStepRefused}
use Rattle.desk_replica.specs.WorldStep.{WorldState, WorldStep, site_at, typed_there, IsThere, IsDone, IsRefusedAs}
use Rattle.desk_replica.specs.WorldRun.{AreSites, WorldRun, empty_world, IsLater, IsWorld, all_made}
use Rattle.desk_replica.proofs.Merges.{between_start, disagree_apart}
use Rattle.desk_replica.proofs.Refusals.{reused_apart}
use Rattle.desk_replica.proofs.Typing.{new_ins, visible_attached}
use Rattle.desk_replica.proofs.Worlds.{IsSound, IsSound-grown, IsSound-made, agree_parts, joins_part}
use Rattle.std.proofs.lemmas.Option.{slice_get_within}

-- ---- lists

pub listed_at : {X : Type 0} (xs : List X) (j : ℕ) (x : X) → slice_get xs j ≡ Some x → Contains xs x
listed_at [] j x h = absurd (let w = slice_get_within [] j x h in omega arith)
listed_at (y ∷ xs) zero x h = (zero, omega arith, some_is y x h)
listed_at (y ∷ xs) (suc j) x h = Contains-append_right (y ∷ []) xs x (listed_at xs j x h)

either_less : (m n : ℕ) → m ≢ n → (m < n) ⊎ (n < m)
either_less zero zero ne = absurd (ne refl)
either_less zero (suc n) ne = inl (omega arith)
either_less (suc m) zero ne = inr (omega arith)
either_less (suc m) (suc n) ne = elim (either_less m n (λ e. ne (ap (λ k. suc k) e))) [ inl lt ↦ inl (omega arith) | inr lt ↦ inr (omega arith) ]

-- a site is that of one desk
one_desk : (sites : List ℕ) → AreSites sites → (d e : ℕ) → d < length sites → e < length sites → site_at sites d ≡ site_at sites e → e ≡ d
one_desk sites are d e d_in e_in same = elim (eqb_tells e d) [
  | inl here ↦ here.1
  | inr other ↦ absurd (elim (either_less e d other.1) [ inl lt ↦ are.apart e d 0 lt d_in (sym same) | inr lt ↦ are.apart d e 0 lt e_in same ])
]

named : (s : OperationSet) (id : Identifier) → AllWellFormed s → IsAttached s.ins id → IsIdentifier id
named s id well (below_root q ch is) = (well (Insert q Root ch) is).0
named s id well (below q parent ch is up) = (well (Insert q (After parent) ch) is).0

-- ---- one step

module _ (sites : List ℕ) (are : AreSites sites) (w : WorldState) (sound : IsSound sites w) where
  in_list : (d : ℕ) → d < length w.sets → d < length sites
  in_list d lt = let many = sound.many in omega (arith, many, lt)

  of_all : (d e : ℕ) → Agree (set_at w.sets d) (set_at w.sets e)
  of_all d e = agree_parts (set_at w.sets d) (set_at w.sets e) (all_made w) (sound.part d) (sound.part e)

  -- the next identifier of a desk was never made
  never_made : (d : ℕ) (q : Place) (b : ℕ) → d < length w.sets → Holds (all_made w) (Insert (record { counter = next (set_at w.sets d); site = site_at sites d }) q b) → ⊥
  never_made d q b lt held =
      let s = set_at w.sets d in
      let id : Identifier = record { counter = next s; site = site_at sites d } in
      let here : map.get s.ins id ≡ Some (record { parent = q; ch = b }) = sound.own d (Insert id q b) (in_list d lt) held refl in
      let none = sym (new_ins s id refl) ∙ here in
      absurd cc

  made_held : (j : ℕ) (op : OpView) → slice_get w.made j ≡ Some op → Holds (all_made w) op
  made_held j op at = (sound.of_made op).1 (listed_at w.made j op at)

  -- what a desk takes of what was made
  grown_by : (d : ℕ) (op : OpView) → d < length w.sets → Holds (all_made w) op → IsSound sites (record { sets = with_set w.sets d (with_operation (set_at w.sets d) op); made = w.made })
  grown_by d op lt held =
      let s = set_at w.sets d in
      let joined = λ (x : OpView). Holds-with_operation s op x (joins_part s (all_made w) op (sound.part d) held) in
      IsSound-grown sites w sound d (with_operation s op) lt (λ x h. (joined x).1 (inr h))
      (λ x h. elim ((joined x).0 h) [ inl same ↦ subst (Holds (all_made w)) (sym same) held | inr old ↦ sound.part d x old ])

  -- what a desk takes of what another one holds
  grown_between : (d e : ℕ) (u : OperationSet) → d < length w.sets → IsBetween (set_at w.sets d) (set_at w.sets e) u → IsSound sites (record { sets = with_set w.sets d u; made = w.made })
  grown_between d e u lt between =
      IsSound-grown sites w sound d u lt between.keeps (λ x h. elim (between.of_both x h) [ inl own ↦ sound.part d x own | inr other ↦ sound.part e x other ])

  united : (d e : ℕ) → IsBetween (set_at w.sets d) (set_at w.sets e) (union (set_at w.sets d) (set_at w.sets e))
  united d e =
      let both = Holds-union (set_at w.sets d) (set_at w.sets e) (of_all d e) in
      record { keeps = λ x h. (both x).1 (inl h); of_both = λ x h. (both x).0 h }

  left_between : (s t u : OperationSet) (fault : TakeFault) → IsMergeRefused s t u fault → IsBetween s t u
  left_between s t u IdentifierReused h = subst (IsBetween s t) (sym h.1) (between_start s t)
  left_between s t u Full h = h.1
  left_between s t u Memory h = h.1

  done : (step : Step) (v : WorldState) → IsThere w step → IsDone sites w step v → IsSound sites v
  done (Typed d place ch) v there h =
      let s = set_at w.sets d in
      let id : Identifier = record { counter = next s; site = site_at sites d } in
      subst (IsSound sites) (sym h.2) (IsSound-made sites w sound d (typed_there sites w d place ch) there.0
      (λ kept found. absurd (never_made d kept.parent kept.ch there.0 found)) h.0
      (λ e at of. one_desk sites are d e (in_list d there.0) at of)
      (λ q p r a b j is at. never_made d r b there.0 (subst (λ (x : Identifier). Holds (all_made w) (Insert x r b)) (sym (ap id_of is)) (made_held j (Insert q r b) at))))
    where
      id_of : OpView → Identifier
      id_of (Insert id parent ch) = id
      id_of (EraseOp target) = target
  done (Erase d place) v there h =
      let s = set_at w.sets d in
      subst (IsSound sites) (sym h.3) (IsSound-made sites w sound d (EraseOp h.0) there.0 tt
      (named s h.0 (AllWellFormed-part s (all_made w) sound.well_formed (sound.part d)) (visible_attached s place h.0 h.1))
      (λ e at of. absurd of) (λ q p r a b j is at. absurd cc))
  done (Deliver d op) v there h = subst (IsSound sites) (sym h.3) (grown_by d h.0 there.0 (made_held op h.0 h.1))
  done (Merge d e) v there h = subst (IsSound sites) (sym h.1) (grown_between d e (union (set_at w.sets d) (set_at w.sets e)) there.0 (united d e))

  refused : (step : Step) (number : ℕ) (v : WorldState) → IsThere w step → IsRefusedAs w step number v → IsSound sites v
  refused (Typed d place ch) number v there h = subst (IsSound sites) (sym h.3) sound
  refused (Erase d place) number v there h = subst (IsSound sites) (sym h.2) sound
  refused (Deliver d op) number v there h = subst (IsSound sites) (sym h.3) sound
  refused (Merge d e) number v there h =
      let left = h.0.3 in
      let same : v ≡ record { sets = with_set w.sets d left.left; made = w.made } = (λ i. record { sets = left.new_is i; made = h.1 i }) in
      subst (IsSound sites) (sym same) (grown_between d e left.left there.0 (left_between (set_at w.sets d) (set_at w.sets e) left.left h.0.0 left.refused))

  pub IsSound-step : (step : Step) (reply : Reply) (v : WorldState) → WorldStep sites w step reply v → IsSound sites v
  IsSound-step step NoSuch v h = subst (IsSound sites) (sym h.1) sound
  IsSound-step step Done v h = done step v h.0 h.1
  IsSound-step step (Refused number) v h = refused step number v h.0 h.1

  -- ---- no identifier is reused

  code_reused : (fault : TakeFault) → 1 ≡ take_code fault → fault ≡ IdentifierReused
  code_reused IdentifierReused is = refl
  code_reused Full is = absurd (omega (arith, is))
  code_reused Memory is = absurd (omega (arith, is))

  pub no_delivery_reuses : (d op : ℕ) (v : WorldState) → WorldStep sites w (Deliver d op) (Refused 1) v → ⊥
  no_delivery_reuses d op v h =
      let o = h.1.0 in
      let fault = h.1.2.0 in
      let r = subst (λ (f : TakeFault). IsStepRefused w.sets (takes d o) f) (code_reused fault h.1.2.2) h.1.2.1 in
      reused_apart (set_at w.sets d) (all_made w) o (sound.part d) (made_held op o h.1.1) r

  pub no_merge_reuses : (d e : ℕ) (v : WorldState) → WorldStep sites w (Merge d e) (Refused 1) v → ⊥
  no_merge_reuses d e v h =
      let fault = h.1.0.0 in
      let r = subst (λ (f : TakeFault). IsStepRefused w.sets (merges d e) f) (code_reused fault h.1.0.2) h.1.0.1 in
      disagree_apart (set_at w.sets d) (set_at w.sets e) r (of_all d e)

-- ---- runs

pub IsSound-run : (sites : List ℕ) → AreSites sites → (w v : WorldState) (steps : List Step) (replies : List Reply) → IsSound sites w → WorldRun sites w steps replies v → IsSound sites v
IsSound-run sites are w v [] [] sound run = subst (IsSound sites) (sym run) sound
IsSound-run sites are w v [] (r ∷ replies) sound run = absurd run
IsSound-run sites are w v (s ∷ steps) [] sound run = absurd run
IsSound-run sites are w v (s ∷ steps) (r ∷ replies) sound run = IsSound-run sites are run.0 v steps replies (IsSound-step sites are w sound s r run.0 run.1) run.2

pub IsSound-empty : (sites : List ℕ) → IsSound sites (empty_world (length sites))
IsSound-empty sites = record {
  many = length-replicate (length sites) no_operations;
  of_made = λ op. ((λ h. absurd (Holds-no_operations op h)), (λ h. absurd (let lt = h.1 in omega (arith, lt))));
  well_formed = λ op h. absurd (Holds-no_operations op h);
  part = λ d op h. subst (λ (s : OperationSet). Holds s op) (nothing_at (length sites) d) h;
  own = λ d op at h is. absurd (Holds-no_operations op h);
  once = λ i j id p q a b at_i at_j. absurd (let w = slice_get_within [] i (Insert id p a) at_i in omega arith);
}
  where
    nothing_at : (n d : ℕ) → set_at (replicate n no_operations) d ≡ no_operations
    nothing_at zero d = refl
    nothing_at (suc n) zero = refl
    nothing_at (suc n) (suc d) = nothing_at n d

pub IsSound-world : (sites : List ℕ) (w : WorldState) → IsWorld sites w → IsSound sites w
IsSound-world sites w world = IsSound-run sites world.are_sites (empty_world (length sites)) w world.later.steps world.later.replies (IsSound-empty sites) world.later.run

pub IsSound-later : (sites : List ℕ) (w v : WorldState) → IsWorld sites w → IsLater sites w v → IsSound sites v
IsSound-later sites w v world later = IsSound-run sites world.are_sites w v later.steps later.replies (IsSound-world sites w world) later.run

-- ---- what was made stays made

more_step : (sites : List ℕ) (w v : WorldState) (step : Step) (reply : Reply) → WorldStep sites w step reply v → (op : OpView) → Contains w.made op → Contains v.made op
more_step sites w v step NoSuch h op at = subst (λ (x : WorldState). Contains x.made op) (sym h.1) at
more_step sites w v (Typed d place ch) Done h op at = subst (λ (x : WorldState). Contains x.made op) (sym h.1.2) (Contains-append_left w.made (typed_there sites w d place ch ∷ []) op at)
more_step sites w v (Erase d place) Done h op at = subst (λ (x : WorldState). Contains x.made op) (sym h.1.3) (Contains-append_left w.made (EraseOp h.1.0 ∷ []) op at)
more_step sites w v (Deliver d k) Done h op at = subst (λ (x : WorldState). Contains x.made op) (sym h.1.3) at
more_step sites w v (Merge d e) Done h op at = subst (λ (x : WorldState). Contains x.made op) (sym h.1.1) at
more_step sites w v (Typed d place ch) (Refused n) h op at = subst (λ (x : WorldState). Contains x.made op) (sym h.1.3) at
more_step sites w v (Erase d place) (Refused n) h op at = subst (λ (x : WorldState). Contains x.made op) (sym h.1.2) at
more_step sites w v (Deliver d k) (Refused n) h op at = subst (λ (x : WorldState). Contains x.made op) (sym h.1.3) at
more_step sites w v (Merge d e) (Refused n) h op at = subst (λ (l : List OpView). Contains l op) (sym h.1.1) at

more_run : (sites : List ℕ) (w v : WorldState) (steps : List Step) (replies : List Reply) → WorldRun sites w steps replies v → (op : OpView) → Contains w.made op → Contains v.made op
more_run sites w v [] [] run op at = subst (λ (x : WorldState). Contains x.made op) (sym run) at
more_run sites w v [] (r ∷ replies) run op at = absurd run
more_run sites w v (s ∷ steps) [] run op at = absurd run
more_run sites w v (s ∷ steps) (r ∷ replies) run op at = more_run sites run.0 v steps replies run.2 op (more_step sites w run.0 s r run.1 op at)

pub part_later : (sites : List ℕ) (w v : WorldState) → IsWorld sites w → IsLater sites w v → IsPartOf (all_made w) (all_made v)
part_later sites w v world later op held =
    ((IsSound-later sites w v world later).of_made op).1 (more_run sites w v later.steps later.replies later.run op (((IsSound-world sites w world).of_made op).0 held))

pub desk_later : (sites : List ℕ) (w v : WorldState) → IsWorld sites w → IsLater sites w v → (d : ℕ) → IsPartOf (set_at w.sets d) (all_made v)
desk_later sites w v world later d op held = part_later sites w v world later op ((IsSound-world sites w world).part d op held)

-- ---- no reply is a reuse

pub no_reuse : (sites : List ℕ) → AreSites sites → (w v : WorldState) (steps : List Step) (replies : List Reply) → IsSound sites w → WorldRun sites w steps replies v → (k d n : ℕ)
    → (slice_get steps k ≡ Some (Deliver d n)) ⊎ (slice_get steps k ≡ Some (Merge d n)) → slice_get replies k ≡ Some (Refused 1) → ⊥
no_reuse sites are w v [] [] sound run k d n step reply = absurd (let l = slice_get_within [] k (Refused 1) reply in omega arith)
no_reuse sites are w v [] (r ∷ replies) sound run k d n step reply = run
no_reuse sites are w v (s ∷ steps) [] sound run k d n step reply = run
no_reuse sites are w v (s ∷ steps) (r ∷ replies) sound run (suc k) d n step reply = no_reuse sites are run.0 v steps replies (IsSound-step sites are w sound s r run.0 run.1) run.2 k d n step reply
no_reuse sites are w v (s ∷ steps) (r ∷ replies) sound run zero d n (inl step) reply =
    no_delivery_reuses sites are w sound d n run.0 (subst (λ (x : Step). WorldStep sites w x (Refused 1) run.0) (some_is s (Deliver d n) step) (subst (λ (y : Reply). WorldStep sites w s y run.0) (some_is r (Refused 1) reply) run.1))
no_reuse sites are w v (s ∷ steps) (r ∷ replies) sound run zero d n (inr step) reply =
    no_merge_reuses sites are w sound d n run.0 (subst (λ (x : Step). WorldStep sites w x (Refused 1) run.0) (some_is s (Merge d n) step) (subst (λ (y : Reply). WorldStep sites w s y run.0) (some_is r (Refused 1) reply) run.1))
