-- A list of operations has one set, or one first refusal, and not both.
use Rattle.std.proofs.Common.{◌≡◌, zero, ◌+◌, ◌≤◌, List, [], ◌∷◌, ◌++◌, Some, refl, sym, ap, subst, ◌∙◌, inl, inr, arith}
use Rattle.std.specs.Prelude.{Contains}
use Rattle.std.proofs.lemmas.List.Elements.{Contains-append_left, Contains-append_right}
use Rattle.std.specs.FinMap as map
use Rattle.bg_types.specs.OperationSet.{OperationSet, Holds, MayJoin, ReusesIdentifier, with_operation, size}
use Rattle.bg_types.specs.declared.op.OpView.{OpView}
use Rattle.bg_types.specs.declared.op.OpView.TheVariants.{Insert, Erase}
use Rattle.bg_types.proofs.Interface.{Holds-with_operation, same_operations, size-with_operation}
use Rattle.desk_replica.specs.declared.answer.TakeFault.{TakeFault}
use Rattle.desk_replica.specs.declared.answer.TakeFault.TheVariants.{IdentifierReused, Full, Memory}
use Rattle.desk_replica.specs.SetOf.{IsSetOf}
use Rattle.desk_replica.specs.Reply.{IsAdmitted, IsRefusal}
use Rattle.desk_replica.specs.Refusal.{IsFirstRefusal}
use Rattle.desk_replica.specs.Merging.{IsMergeRefusal}
use Rattle.desk_replica.proofs.Merges.{disagree_apart, size_more}

-- t holds all that s holds
abbrev IsPart : OperationSet → OperationSet → Type 0
IsPart s t = (op : OpView) → Holds s op → Holds t op

pub IsSetOf-unique : (ops : List OpView) (s t : OperationSet) → IsSetOf ops s → IsSetOf ops t → s ≡ t
IsSetOf-unique ops s t a b = same_operations s t (λ op. ((λ h. (b op).1 ((a op).0 h)), (λ h. (a op).1 ((b op).0 h))))

-- ---- a refusal has one fault

reused_not_new : (s : OperationSet) (op : OpView) → ReusesIdentifier s op → MayJoin s op → ⊥
reused_not_new s (Insert id parent ch) reused may = reused.2 (may reused.0 reused.1)
reused_not_new s (Erase target) reused may = reused

pub same_refusal : (s : OperationSet) (op : OpView) (f g : TakeFault) → IsRefusal s op f → IsRefusal s op g → f ≡ g
same_refusal s op IdentifierReused IdentifierReused a b = refl
same_refusal s op IdentifierReused Full a b = absurd (reused_not_new s op a b.0)
same_refusal s op IdentifierReused Memory a b = absurd b
same_refusal s op Full IdentifierReused a b = absurd (reused_not_new s op b a.0)
same_refusal s op Full Full a b = refl
same_refusal s op Full Memory a b = absurd b
same_refusal s op Memory g a b = absurd a

pub same_merge_refusal : (s t : OperationSet) (f g : TakeFault) → IsMergeRefusal s t f → IsMergeRefusal s t g → f ≡ g
same_merge_refusal s t IdentifierReused IdentifierReused a b = refl
same_merge_refusal s t IdentifierReused Full a b = absurd (disagree_apart s t a b.0)
same_merge_refusal s t IdentifierReused Memory a b = absurd b
same_merge_refusal s t Full IdentifierReused a b = absurd (disagree_apart s t b a.0)
same_merge_refusal s t Full Full a b = refl
same_merge_refusal s t Full Memory a b = absurd b
same_merge_refusal s t Memory g a b = absurd a

-- ---- what a refused operation and what is kept before it can't be held together

pub reused_apart : (kept s : OperationSet) (op : OpView) → IsPart kept s → Holds s op → ReusesIdentifier kept op → ⊥
reused_apart kept s (Insert id parent ch) part held reused =
    let node = reused.0 in
    let there : map.get s.ins id ≡ Some node = part (Insert id node.parent node.ch) reused.1 in
    reused.2 (let equal = sym there ∙ held in cc)
reused_apart kept s (Erase target) part held reused = reused

-- what is kept, and what is admitted, is not refused
pub known_accepted : (s : OperationSet) (op : OpView) → Holds s op → (fault : TakeFault) → ¬ (IsRefusal s op fault)
known_accepted s op held IdentifierReused h = reused_apart s s op (λ _ there. there) held h
known_accepted s op held Full h = h.1 held
known_accepted s op held Memory h = h

pub admitted_accepted : (s : OperationSet) (op : OpView) → IsAdmitted s op → (fault : TakeFault) → ¬ (IsRefusal s op fault)
admitted_accepted s op a IdentifierReused h = reused_not_new s op h a.joins
admitted_accepted s op a Full h = let room = a.room in let full = h.2 in omega (arith, room, full)
admitted_accepted s op a Memory h = h

full_apart : (kept s : OperationSet) (op : OpView) → IsPart kept s → Holds s op → MayJoin kept op → ¬ (Holds kept op) → size kept + 1 ≤ size s
full_apart kept s op part held may new =
    let joined : IsPart (with_operation kept op) s = λ x h. elim ((Holds-with_operation kept op x may).0 h) [ inl is ↦ subst (Holds s) (sym is) held | inr old ↦ part x old ] in
    omega (arith, size-with_operation kept op may new, size_more (with_operation kept op) s joined)

refusal_apart : (kept s : OperationSet) (op : OpView) (fault : TakeFault) → IsPart kept s → Holds s op → size s ≤ 1_000_000 → IsRefusal kept op fault → ⊥
refusal_apart kept s op IdentifierReused part held limited refused = reused_apart kept s op part held refused
refusal_apart kept s op Full part held limited refused = let more = full_apart kept s op part held refused.0 refused.1 in let full = refused.2 in absurd (omega (arith, more, full, limited))
refusal_apart kept s op Memory part held limited refused = refused

Contains-here : (before after : List OpView) (op : OpView) → Contains (before ++ op ∷ after) op
Contains-here before after op = Contains-append_right before (op ∷ after) op (zero, omega arith, refl)

-- no set of at most 1,000,000 holds operations of which one is refused
pub refused_apart : (ops : List OpView) (s : OperationSet) (fault : TakeFault) → IsSetOf ops s → size s ≤ 1_000_000 → IsFirstRefusal ops fault → ⊥
refused_apart ops s fault of_all limited h =
    let listed : Contains ops h.op = subst (λ l. Contains l h.op) (sym h.in_order) (Contains-here h.before h.after h.op) in
    refusal_apart h.kept s h.op fault
    (λ x held. (of_all x).1 (subst (λ l. Contains l x) (sym h.in_order) (Contains-append_left h.before (h.op ∷ h.after) x ((h.of_before x).0 held))))
    ((of_all h.op).1 listed) limited h.refused

-- ---- one first refusal

-- two places in one list: the same, or one of them before the other
data Places (xs : List OpView) (x : OpView) (ys : List OpView) (y : OpView) : Type 0 where
  same : xs ≡ ys → x ≡ y → Places xs x ys y
  first : (rest : List OpView) → ys ≡ xs ++ x ∷ rest → Places xs x ys y
  second : (rest : List OpView) → xs ≡ ys ++ y ∷ rest → Places xs x ys y

places : (xs ys : List OpView) (x y : OpView) (xt yt : List OpView) → xs ++ x ∷ xt ≡ ys ++ y ∷ yt → Places xs x ys y
places [] [] x y xt yt e = same refl cc
places [] (z ∷ ys) x y xt yt e = let here : x ≡ z = cc in first ys (ap (λ h. h ∷ ys) (sym here))
places (z ∷ xs) [] x y xt yt e = let here : z ≡ y = cc in second xs (ap (λ h. h ∷ xs) here)
places (z ∷ xs) (w ∷ ys) x y xt yt e =
    let here : z ≡ w = cc in
    let rest : xs ++ x ∷ xt ≡ ys ++ y ∷ yt = cc in
    elim (places xs ys x y xt yt rest) [
      | same a b ↦ same (λ i. here i ∷ a i) b
      | first t a ↦ first t (λ i. sym here i ∷ a i)
      | second t a ↦ second t (λ i. here i ∷ a i)
    ]

pub one_refusal : (ops : List OpView) (f g : TakeFault) → IsFirstRefusal ops f → IsFirstRefusal ops g → f ≡ g
one_refusal ops f g a b = by_places (places a.before b.before a.op b.op a.after b.after (sym a.in_order ∙ b.in_order)) where
  by_places : Places a.before a.op b.before b.op → f ≡ g
  by_places (same lists op) =
      let kept : b.kept ≡ a.kept = IsSetOf-unique a.before b.kept a.kept (subst (λ l. IsSetOf l b.kept) (sym lists) b.of_before) a.of_before in
      same_refusal a.kept a.op f g a.refused (subst (λ s. IsRefusal s a.op g) kept (subst (λ o. IsRefusal b.kept o g) (sym op) b.refused))
  by_places (first rest longer) = absurd (refused_apart (a.before ++ a.op ∷ rest) b.kept f (subst (λ l. IsSetOf l b.kept) longer b.of_before) b.limited
      (record { before = a.before; op = a.op; after = rest; kept = a.kept; in_order = refl; of_before = a.of_before; limited = a.limited; refused = a.refused }))
  by_places (second rest longer) = absurd (refused_apart (b.before ++ b.op ∷ rest) a.kept g (subst (λ l. IsSetOf l a.kept) longer a.of_before) a.limited
      (record { before = b.before; op = b.op; after = rest; kept = b.kept; in_order = refl; of_before = b.of_before; limited = b.limited; refused = b.refused }))
