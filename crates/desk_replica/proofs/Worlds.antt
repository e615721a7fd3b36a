-- What every world keeps: each desk's set is part of what was made, and no identifier is made twice.
use Rattle.std.proofs.Common.{◌≡◌, ◌≢◌, ◌<◌, ℕ, zero, suc, List, [], ◌∷◌, ◌++◌, length, Some, ◌⊎◌, inl, inr, refl, sym, ap, subst, ◌∙◌, arith}
use Rattle.std.specs.Prelude.{Contains, slice_get}
use Rattle.std.proofs.Math.ListN.{set, get_or}
use Rattle.std.proofs.lemmas.List.{get_or-set_same, get_or-set_other, length-set}
use Rattle.std.proofs.lemmas.List.Elements.{Contains-push, Contains-push_cases, Contains-append_left}
use Rattle.std.proofs.lemmas.Bool.Decides.{eqb_tells}
use Rattle.bg_types.specs.Identifier.{Identifier}
use Rattle.bg_types.specs.WellFormed.{IsWellFormed}
use Rattle.bg_types.specs.OperationSet.{OperationSet, AllWellFormed, Agree, Holds, MayJoin, no_operations, with_operation}
use Rattle.bg_types.specs.declared.op.Place.{Place}
use Rattle.bg_types.specs.declared.op.OpView.{OpView}
use Rattle.bg_types.specs.declared.op.OpView.TheVariants.{Insert, Erase as EraseOp}
use Rattle.bg_types.proofs.Interface.{some_is, Holds-with_operation}
use Rattle.rga_tree.specs.Parts.{IsPartOf}
use Rattle.rga_tree.proofs.Interface.{AllWellFormed-with}
use Rattle.desk_replica.specs.SetOf.{IsSetOf}
use Rattle.desk_replica.specs.Merging.{with_operations}
use Rattle.desk_replica.specs.DeskSets.{set_at, with_set}
use Rattle.desk_replica.specs.WorldStep.{WorldState, site_at, with_made}
use Rattle.desk_replica.specs.WorldRun.{all_made}
use Rattle.desk_replica.proofs.Merges.{may_join, between_start}
use Rattle.std.proofs.lemmas.Option.{slice_get_within}

-- the operation inserts a character of this site
abbrev pub IsOf : ℕ → OpView → Type 0
IsOf site (Insert id parent ch) = id.site ≡ site
IsOf site (EraseOp target) = ⊥

-- ---- parts of one set

pub agree_parts : (s t u : OperationSet) → IsPartOf s u → IsPartOf t u → Agree s t
agree_parts s t u in_s in_t id a b at_s at_t = some_is a b (sym (in_s (Insert id a.parent a.ch) at_s) ∙ in_t (Insert id b.parent b.ch) at_t)

pub joins_part : (s t : OperationSet) (op : OpView) → IsPartOf s t → Holds t op → MayJoin s op
joins_part s t op part held = may_join s t s op (agree_parts s t t part (λ x h. h)) (between_start s t) held

-- ---- a list of sets of which one has changed

set_at-with : (sets : List OperationSet) (d e : ℕ) (u : OperationSet) → d < length sets → ((e ≡ d) × (set_at (with_set sets d u) e ≡ u)) ⊎ ((e ≢ d) × (set_at (with_set sets d u) e ≡ set_at sets e))
set_at-with sets d e u within = elim (eqb_tells e d) [
  | inl here ↦ inl (here.1, ap (λ k. get_or (set sets d u) k no_operations) here.1 ∙ get_or-set_same sets d u no_operations within)
  | inr other ↦ inr (other.1, get_or-set_other sets d e u no_operations other.1)
]

-- ---- all operations made

pub all_made-more : (s : OperationSet) (ops : List OpView) (op : OpView) → with_operations s (ops ++ op ∷ []) ≡ with_operation (with_operations s ops) op
all_made-more s [] op = refl
all_made-more s (x ∷ ops) op = all_made-more (with_operation s x) ops op

-- ---- what a world keeps

pub record IsSound (sites : List ℕ) (w : WorldState) : Type 0 where
  pub many : length w.sets ≡ length sites
  pub of_made : IsSetOf w.made (all_made w)
  pub well_formed : AllWellFormed (all_made w)
  pub part : (d : ℕ) → IsPartOf (set_at w.sets d) (all_made w)
  pub own : (d : ℕ) (op : OpView) → d < length sites → Holds (all_made w) op → IsOf (site_at sites d) op → Holds (set_at w.sets d) op
  pub once : (i j : ℕ) (id : Identifier) (p q : Place) (a b : ℕ) → slice_get w.made i ≡ Some (Insert id p a) → slice_get w.made j ≡ Some (Insert id q b) → i ≡ j

-- ---- a desk's set grows within what was made

module _ (sites : List ℕ) (w : WorldState) (sound : IsSound sites w) (d : ℕ) (u : OperationSet) (within : d < length w.sets)
    (keeps : IsPartOf (set_at w.sets d) u) (part : IsPartOf u (all_made w)) where
  abbrev grown : WorldState
  grown = record { sets = with_set w.sets d u; made = w.made }

  pub IsSound-grown : IsSound sites grown
  IsSound-grown = record {
    many = length-set w.sets d u ∙ sound.many;
    of_made = sound.of_made;
    well_formed = sound.well_formed;
    part = λ e op. elim (set_at-with w.sets d e u within) [
      | inl here ↦ λ h. part op (subst (λ (s : OperationSet). Holds s op) here.1 h)
      | inr other ↦ λ h. sound.part e op (subst (λ (s : OperationSet). Holds s op) other.1 h)
    ];
    own = λ e op at held is. let kept = sound.own e op at held is in elim (set_at-with w.sets d e u within) [
      | inl here ↦ subst (λ (s : OperationSet). Holds s op) (sym here.1) (keeps op (subst (λ (k : ℕ). Holds (set_at w.sets k) op) here.0 kept))
      | inr other ↦ subst (λ (s : OperationSet). Holds s op) (sym other.1) kept
    ];
    once = sound.once;
  }

-- ---- a desk makes an operation

pushed : (made : List OpView) (op x : OpView) (i : ℕ) → slice_get (made ++ op ∷ []) i ≡ Some x → (slice_get made i ≡ Some x) ⊎ ((i ≡ length made) × (op ≡ x))
pushed [] op x zero h = inr (refl, some_is op x h)
pushed [] op x (suc i) h = absurd (let w = slice_get_within (op ∷ []) (suc i) x h in omega arith)
pushed (y ∷ made) op x zero h = inl h
pushed (y ∷ made) op x (suc i) h = elim (pushed made op x i h) [ inl old ↦ inl old | inr new ↦ inr (ap (λ n. suc n) new.0, new.1) ]

module _ (sites : List ℕ) (w : WorldState) (sound : IsSound sites w) (d : ℕ) (op : OpView) (within : d < length w.sets)
    (may : MayJoin (all_made w) op) (formed : IsWellFormed op)
    (its_site : (e : ℕ) → e < length sites → IsOf (site_at sites e) op → e ≡ d)
    (is_new : (id : Identifier) (p q : Place) (a b j : ℕ) → op ≡ Insert id p a → slice_get w.made j ≡ Some (Insert id q b) → ⊥) where
  abbrev all : OperationSet
  all = all_made w

  abbrev s : OperationSet
  s = set_at w.sets d

  abbrev v : WorldState
  v = with_made w d op

  all_is : all_made v ≡ with_operation all op
  all_is = all_made-more no_operations w.made op

  held_all : (x : OpView) → (Holds (all_made v) x → (x ≡ op) ⊎ Holds all x) × ((x ≡ op) ⊎ Holds all x → Holds (all_made v) x)
  held_all x = subst (λ (t : OperationSet). (Holds t x → (x ≡ op) ⊎ Holds all x) × ((x ≡ op) ⊎ Holds all x → Holds t x)) (sym all_is) (Holds-with_operation all op x may)

  may_s : MayJoin s op
  may_s = joins_made s op (sound.part d) may
    where
      joins_made : (t : OperationSet) (o : OpView) → IsPartOf t all → MayJoin all o → MayJoin t o
      joins_made t (Insert id parent ch) part joins = λ kept found. joins kept (part (Insert id kept.parent kept.ch) found)
      joins_made t (EraseOp target) part joins = tt

  held_s : (x : OpView) → (Holds (with_operation s op) x → (x ≡ op) ⊎ Holds s x) × ((x ≡ op) ⊎ Holds s x → Holds (with_operation s op) x)
  held_s x = Holds-with_operation s op x may_s

  sets_is : (e : ℕ) → ((e ≡ d) × (set_at v.sets e ≡ with_operation s op)) ⊎ ((e ≢ d) × (set_at v.sets e ≡ set_at w.sets e))
  sets_is e = set_at-with w.sets d e (with_operation s op) within

  grows : (e : ℕ) → IsPartOf (set_at w.sets e) (set_at v.sets e)
  grows e x h = elim (sets_is e) [
    | inl here ↦ subst (λ (t : OperationSet). Holds t x) (sym here.1) ((held_s x).1 (inr (subst (λ (k : ℕ). Holds (set_at w.sets k) x) here.0 h)))
    | inr other ↦ subst (λ (t : OperationSet). Holds t x) (sym other.1) h
  ]

  pub IsSound-made : IsSound sites v
  IsSound-made = record {
    many = length-set w.sets d (with_operation s op) ∙ sound.many;
    of_made = λ x. (
      (λ h. elim ((held_all x).0 h) [
        | inl same ↦ subst (Contains (w.made ++ op ∷ [])) (sym same) (Contains-push w.made op)
        | inr old ↦ Contains-append_left w.made (op ∷ []) x ((sound.of_made x).0 old)
      ]),
      (λ h. (held_all x).1 (elim (Contains-push_cases w.made op x h) [ inl old ↦ inr ((sound.of_made x).1 old) | inr same ↦ inl (sym same) ])),
    );
    well_formed = subst AllWellFormed (sym all_is) (AllWellFormed-with all op sound.well_formed formed);
    part = λ e x h. (held_all x).1 (elim (sets_is e) [
      | inl here ↦ elim ((held_s x).0 (subst (λ (t : OperationSet). Holds t x) here.1 h)) [ inl same ↦ inl same | inr old ↦ inr (sound.part d x old) ]
      | inr other ↦ inr (sound.part e x (subst (λ (t : OperationSet). Holds t x) other.1 h))
    ]);
    own = λ e x at held is. elim ((held_all x).0 held) [
      | inl same ↦ let here : e ≡ d = its_site e at (subst (IsOf (site_at sites e)) same is) in by_own e x here same
      | inr old ↦ grows e x (sound.own e x at old is)
    ];
    once = λ i j id p q a b at_i at_j. once i j id p q a b (pushed w.made op (Insert id p a) i at_i) (pushed w.made op (Insert id q b) j at_j);
  }
    where
      by_own : (e : ℕ) (x : OpView) → e ≡ d → x ≡ op → Holds (set_at v.sets e) x
      by_own e x here same = elim (sets_is e) [
        | inl at ↦ subst (λ (t : OperationSet). Holds t x) (sym at.1) ((held_s x).1 (inl same))
        | inr other ↦ absurd (other.0 here)
      ]

      once : (i j : ℕ) (id : Identifier) (p q : Place) (a b : ℕ) → (slice_get w.made i ≡ Some (Insert id p a)) ⊎ ((i ≡ length w.made) × (op ≡ Insert id p a))
          → (slice_get w.made j ≡ Some (Insert id q b)) ⊎ ((j ≡ length w.made) × (op ≡ Insert id q b)) → i ≡ j
      once i j id p q a b (inl x) (inl y) = sound.once i j id p q a b x y
      once i j id p q a b (inl x) (inr y) = absurd (is_new id q p b a i y.1 x)
      once i j id p q a b (inr x) (inl y) = absurd (is_new id p q a b j x.1 y)
      once i j id p q a b (inr x) (inr y) = x.0 ∙ sym y.0
