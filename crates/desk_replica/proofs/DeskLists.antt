-- A list of desks of which one has changed.
use Rattle.std.proofs.Common.{◌≡◌, ◌≤◌, ◌<◌, ◌+◌, ℕ, List, ◌++◌, length, get_or, Result, Ok, Err, ◌⊎◌, inl, inr, refl, sym, ap, subst, ◌∙◌, arith}
use Rattle.std.specs.Prelude.{OnOk, IfOk, IfErr}
use Rattle.std.proofs.Math.ListN.{set, get_or-append}
use Rattle.std.proofs.Math.Seq.{map-set_same}
use Rattle.std.proofs.lemmas.List.{map-set, get_or-map, get_or_default, get_or-set_same, length-map, set-get_or, set-append_left, set-append_right, get_or-append_right}
use Rattle.bg_types.specs.OperationSet.{OperationSet, no_operations, size, union}
use Rattle.bg_types.proofs.Interface.{some_is}
use Rattle.desk_replica.specs.declared.answer.Taken.{Taken}
use Rattle.desk_replica.specs.declared.answer.TakeFault.{TakeFault}
use Rattle.desk_replica.specs.declared.answer.TakeFault.TheVariants.{IdentifierReused, Full, Memory}
use Rattle.bg_types.specs.declared.op.OpView.{OpView}
use Rattle.desk_replica.specs.Desk.{Desk, fresh}
use Rattle.desk_replica.specs.Reply.{IsRefusal, IsRefused, IsTake}
use Rattle.desk_replica.specs.Merging.{IsMerge, IsMergeRefusal, IsMergeRefused}
use Rattle.desk_replica.specs.DeskSets.{sets_of, sites_of, set_at, with_set, desk_in, merges, sets_after_step, IsStepRefused, LeavesMerged, IsTakeAt, IsMergeAt}
use Rattle.desk_replica.proofs.Merges.{merge_accepted}
use Rattle.desk_replica.proofs.UnionLaw.{idempotent}

-- ---- a desk of the list

pub set_at-desk : (desks : List Desk) (i : ℕ) (d : Desk) → i < length desks → set_at (sets_of desks) i ≡ (get_or desks i d).set
set_at-desk desks i d lt = get_or-map (λ (x : Desk). x.set) desks i d no_operations lt

pub sets_of-set : (desks : List Desk) (i : ℕ) (d : Desk) → sets_of (set desks i d) ≡ with_set (sets_of desks) i d.set
sets_of-set desks i d = map-set (λ (x : Desk). x.set) desks i d

pub sites_of-set : (desks : List Desk) (i : ℕ) (d e : Desk) → d.site ≡ (get_or desks i e).site → sites_of (set desks i d) ≡ sites_of desks
sites_of-set desks i d e is = map-set_same (λ (x : Desk). x.site) desks i d e is

set_at-set : (desks : List Desk) (i : ℕ) (d : Desk) → i < length desks → set_at (sets_of (set desks i d)) i ≡ d.set
set_at-set desks i d lt =
    ap (λ (sets : List OperationSet). set_at sets i) (sets_of-set desks i d)
    ∙ get_or-set_same (sets_of desks) i d.set no_operations (subst (λ n. i < n) (sym (length-map desks (λ (x : Desk). x.set))) lt)

-- a desk of the list takes an operation
pub taken_there : (desks : List Desk) (desk : ℕ) (x after : Desk) (op : OpView) (r : Result Taken TakeFault) → desk < length desks → IsTake (get_or desks desk x) op after r → IsTakeAt desks (set desks desk after) desk op r
taken_there desks desk x after op r lt h = record { after = after; new_is = refl; take = subst (λ (d : Desk). IsTake d op after r) (get_or_default desks desk x (fresh 0) lt) h }

-- a desk meets itself
pub met_self : (d : Desk) → size d.set ≤ 1_000_000 → IsMerge d d d (Ok 0)
met_self d limited = record {
  ok = sym (idempotent d.set);
  count = omega arith;
  accepted = merge_accepted d.set d.set (λ id a b in_a in_b. some_is a b (sym in_a ∙ in_b)) (subst (λ (s : OperationSet). size s ≤ 1_000_000) (sym (idempotent d.set)) limited);
  fault = tt;
  reused = tt;
  nothing_new = λ _. refl;
  site = refl;
  spare = omega arith;
  unpaid = tt;
}

-- a desk of the list meets itself
pub met_itself : (desks : List Desk) (desk from : ℕ) (x : Desk) (r : Result ℕ TakeFault) → desk < length desks → desk ≡ from → IsMerge (get_or desks desk x) (get_or desks desk x) (get_or desks desk x) r
    → IsMergeAt desks desks desk from r
met_itself desks desk from x r lt same met =
    subst (λ n. IsMergeAt desks desks desk n r) same
    (record { after = get_or desks desk x; new_is = sym (set-get_or desks desk x); merge = subst (λ (d : Desk). IsMerge d d (get_or desks desk x) r) (get_or_default desks desk x (fresh 0) lt) met })

-- ---- two desks of the list, borrowed out of its parts

module _ (front back : List Desk) where
  desk_in_front : (i : ℕ) (x : Desk) → i < length front → desk_in (front ++ back) i ≡ get_or front i x
  desk_in_front i x lt = get_or-append front back (fresh 0) i lt ∙ get_or_default front i (fresh 0) x lt

  desk_in_back : (n : ℕ) (x : Desk) → length front ≡ n → 0 < length back → desk_in (front ++ back) n ≡ get_or back 0 x
  desk_in_back n x long some =
      get_or-append_right front back n n (fresh 0) long (omega arith) ∙ ap (λ k. get_or back k (fresh 0)) (omega arith) ∙ get_or_default back 0 (fresh 0) x some

  module _ (desks : List Desk) (parts : front ++ back ≡ desks) (after : Desk) (r : Result ℕ TakeFault) (some : 0 < length back) where
    met_there : (new : List Desk) (desk from : ℕ) (d e : Desk) → IsMerge d e after r → desk_in (front ++ back) desk ≡ d → desk_in (front ++ back) from ≡ e → new ≡ set (front ++ back) desk after → IsMergeAt desks new desk from r
    met_there new desk from d e met here there changed =
        subst (λ (l : List Desk). IsMergeAt l new desk from r) parts
        (record { after = after; new_is = changed; merge = subst (λ (x : Desk). IsMerge x (desk_in (front ++ back) from) after r) (sym here) (subst (λ (x : Desk). IsMerge d x after r) (sym there) met) })

    -- a desk of the front meets the first of the back
    pub met_behind : (desk from : ℕ) (x y : Desk) → length front ≡ from → desk < length front → IsMerge (get_or front desk x) (get_or back 0 y) after r → IsMergeAt desks (set front desk after ++ back) desk from r
    met_behind desk from x y long lt met =
        met_there (set front desk after ++ back) desk from (get_or front desk x) (get_or back 0 y) met (desk_in_front desk x lt) (desk_in_back from y long some) (sym (set-append_left front back desk after lt))

    -- the first of the back meets a desk of the front
    pub met_before : (desk from : ℕ) (x y : Desk) → length front ≡ desk → from < length front → IsMerge (get_or back 0 x) (get_or front from y) after r → IsMergeAt desks (front ++ set back 0 after) desk from r
    met_before desk from x y long lt met =
        met_there (front ++ set back 0 after) desk from (get_or back 0 x) (get_or front from y) met (desk_in_back desk x long some) (desk_in_front from y lt)
        (ap (λ k. front ++ set back k after) (omega arith) ∙ sym (set-append_right front back desk desk after long (omega arith)))

-- ---- what a meeting of two desks of the list says of their sets

module _ (old new : List Desk) (desk from : ℕ) (here : desk < length old) (there : from < length old) where
  own : set_at (sets_of old) desk ≡ (desk_in old desk).set
  own = set_at-desk old desk (fresh 0) here

  others : set_at (sets_of old) from ≡ (desk_in old from).set
  others = set_at-desk old from (fresh 0) there

  pub merged_sets : (r : Result ℕ TakeFault) → IsMergeAt old new desk from r → OnOk r (sets_of new ≡ sets_after_step (sets_of old) (merges desk from))
  merged_sets (Ok n) h = ap sets_of h.new_is ∙ sets_of-set old desk h.after ∙ ap (with_set (sets_of old) desk) (h.merge.ok ∙ sym (λ i. union (own i) (others i)))
  merged_sets (Err fault) h = tt

  pub merged_count : (r : Result ℕ TakeFault) → IsMergeAt old new desk from r → IfOk r (λ n. size (set_at (sets_of new) desk) ≡ size (set_at (sets_of old) desk) + n)
  merged_count (Ok n) h = ap (λ (l : List Desk). size (set_at (sets_of l) desk)) h.new_is ∙ ap size (set_at-set old desk h.after here) ∙ h.merge.count ∙ ap (λ (s : OperationSet). size s + n) (sym own)
  merged_count (Err fault) h = tt

  refusal_there : (fault : TakeFault) → IsMergeRefusal (set_at (sets_of old) desk) (set_at (sets_of old) from) fault → IsMergeRefusal (desk_in old desk).set (desk_in old from).set fault
  refusal_there fault h = subst (λ (s : OperationSet). IsMergeRefusal s (desk_in old from).set fault) own (subst (λ (t : OperationSet). IsMergeRefusal (set_at (sets_of old) desk) t fault) others h)

  refused_there : (u : OperationSet) (fault : TakeFault) → IsMergeRefused (desk_in old desk).set (desk_in old from).set u fault → IsMergeRefused (set_at (sets_of old) desk) (set_at (sets_of old) from) u fault
  refused_there u fault h =
      subst (λ (s : OperationSet). IsMergeRefused s (set_at (sets_of old) from) u fault) (sym own) (subst (λ (t : OperationSet). IsMergeRefused (desk_in old desk).set t u fault) (sym others) h)

  pub merged_accepted : (r : Result ℕ TakeFault) → IsMergeAt old new desk from r → OnOk r ((fault : TakeFault) → ¬ (IsStepRefused (sets_of old) (merges desk from) fault))
  merged_accepted (Ok n) h = λ fault refused. h.merge.accepted fault (refusal_there fault refused)
  merged_accepted (Err fault) h = tt

  pub merged_left : (r : Result ℕ TakeFault) → IsMergeAt old new desk from r → IfErr r (LeavesMerged (sets_of old) (sets_of new) desk from)
  merged_left (Ok n) h = tt
  merged_left (Err fault) h = record { left = h.after.set; new_is = ap sets_of h.new_is ∙ sets_of-set old desk h.after; refused = refused_there h.after.set fault h.merge.fault }

  pub merged_sites : (r : Result ℕ TakeFault) → IsMergeAt old new desk from r → sites_of new ≡ sites_of old
  merged_sites r h = ap sites_of h.new_is ∙ sites_of-set old desk h.after (fresh 0) h.merge.site

refusal_of : (s t u : OperationSet) (fault : TakeFault) → IsMergeRefused s t u fault → (fault ≡ Memory) ⊎ IsMergeRefusal s t fault
refusal_of s t u IdentifierReused h = inr h.0
refusal_of s t u Full h = inr h.0
refusal_of s t u Memory h = inl refl

-- whatever memory there is, the step that was refused otherwise is refused
pub left_refused : (old new : List OperationSet) (desk from : ℕ) (r : Result ℕ TakeFault) → IfErr r (LeavesMerged old new desk from) → IfErr r (λ fault. (fault ≡ Memory) ⊎ IsStepRefused old (merges desk from) fault)
left_refused old new desk from (Ok n) h = tt
left_refused old new desk from (Err fault) h = refusal_of (set_at old desk) (set_at old from) h.left fault h.refused

-- the same of an operation that was refused
pub refusal_or_lack : (s : OperationSet) (op : OpView) (fault : TakeFault) → IsRefused s op fault → (fault ≡ Memory) ⊎ IsRefusal s op fault
refusal_or_lack s op IdentifierReused h = inr h
refusal_or_lack s op Full h = inr h
refusal_or_lack s op Memory h = inl refl
