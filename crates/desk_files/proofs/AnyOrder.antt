-- Operations that are taken in another order than that of their file: a desk takes all of them in either, or refuses one in either.
use Rattle.std.proofs.Common.{◌≡◌, ℕ, ◌+◌, ◌≤◌, ◌⊎◌, true, false, List, [], ◌∷◌, ◌++◌, Option, Some, None, length, take, refl, sym, ap, subst, ◌∙◌, inl, inr, arith, append_assoc, append-nil}
use Rattle.std.specs.Prelude.{Contains, is_some}
use Rattle.std.specs.List.Sorted.{IsPermutation}
use Rattle.std.proofs.lemmas.List.Sorted.{Contains-permutation, IsPermutation-sym, length_permutation}
use Rattle.std.proofs.lemmas.List.Elements.{Contains-append_left, Contains-append_right, Contains-append_cases}
use Rattle.std.proofs.lemmas.Bool.{cases_eq, cases_Bool}
use Rattle.std.specs.FinMap as map
use Rattle.std.specs.FinSet as set
use Rattle.bg_types.specs.Identifier.{Identifier}
use Rattle.bg_types.specs.OperationSet.{Node, OperationSet, Holds, MayJoin, ReusesIdentifier, with_operation, size}
use Rattle.bg_types.specs.declared.op.Place.{Place}
use Rattle.bg_types.specs.declared.op.Place.TheVariants.{Root, After}
use Rattle.bg_types.specs.declared.op.OpView.{OpView}
use Rattle.bg_types.specs.declared.op.OpView.TheVariants.{Insert, Erase}
use Rattle.desk_replica.specs.declared.answer.TakeFault.{TakeFault}
use Rattle.desk_replica.specs.declared.answer.TakeFault.TheVariants.{IdentifierReused, Memory}
use Rattle.desk_replica.specs.SetOf.{IsSetOf}
use Rattle.desk_replica.specs.Refusal.{IsFirstRefusal}
use Rattle.op_codec.specs.Feed.{added}
use Rattle.desk_files.specs.Taking.{HasTaken, HasTakenBut, IsReordered}
use Rattle.desk_files.proofs.Feeding.{added_all}
use Rattle.desk_files.proofs.LowerLaws.{HoldsBoth, ListLaws}
use Rattle.desk_files.proofs.Taking.{IsSetOf-push}
use Rattle.bg_types.proofs.Interface.{Holds-may_join}

-- ---- a set reuses the identifier of an operation, or holds it, or could hold it

named_alike : (a b : Identifier) → After a ≡ After b → a ≡ b
named_alike a b e = cc

same_place : (a b : Place) → (a ≡ b) ⊎ (a ≡ b → ⊥)
same_place Root Root = inl refl
same_place Root (After b) = inr (λ e. absurd cc)
same_place (After a) Root = inr (λ e. absurd cc)
same_place (After a) (After b) = elim (cases_eq a.counter b.counter) [
  | inl counter ↦ elim (cases_eq a.site b.site) [
    | inl site ↦ inl (λ i. After (record { counter = counter i; site = site i }))
    | inr apart ↦ inr (λ e. apart (ap (λ (id : Identifier). id.site) (named_alike a b e)))
  ]
  | inr apart ↦ inr (λ e. apart (ap (λ (id : Identifier). id.counter) (named_alike a b e)))
]

same_node : (m n : Node) → (m ≡ n) ⊎ (m ≡ n → ⊥)
same_node m n = elim (same_place m.parent n.parent) [
  | inl parent ↦ elim (cases_eq m.ch n.ch) [
    | inl ch ↦ inl (λ i. record { parent = parent i; ch = ch i })
    | inr apart ↦ inr (λ e. apart (ap (λ (x : Node). x.ch) e))
  ]
  | inr apart ↦ inr (λ e. apart (ap (λ (x : Node). x.parent) e))
]

abbrev pub Stands : OperationSet → OpView → Type 0
Stands s op = ReusesIdentifier s op ⊎ (Holds s op ⊎ (MayJoin s op × ¬ (Holds s op)))

insertion_stands : (s : OperationSet) (id : Identifier) (parent : Place) (ch : ℕ) (found : Option Node) → map.get s.ins id ≡ found → Stands s (Insert id parent ch)
insertion_stands s id parent ch None e = inr (inr (
  λ kept h. (let none : None ≡ Some kept = sym e ∙ h in absurd cc),
  λ h. (let none : None ≡ Some (record { parent = parent; ch = ch }) = sym e ∙ h in absurd cc),
))
insertion_stands s id parent ch (Some kept) e = elim (same_node kept (record { parent = parent; ch = ch })) [
  | inl same ↦ inr (inl (e ∙ ap (λ (n : Node). Some n) same))
  | inr apart ↦ inl (kept, e, apart)
]

pub stands : (s : OperationSet) (op : OpView) → Stands s op
stands s (Insert id parent ch) = insertion_stands s id parent ch (map.get s.ins id) refl
stands s (Erase target) = elim (cases_Bool (set.contains s.del target)) [
  | inl held ↦ inr (inl held)
  | inr absent ↦ inr (inr (tt, λ held. (let both : true ≡ false = sym held ∙ absent in absurd cc)))
]

-- ---- where there is room for all operations, all are taken, or one reuses an identifier

abbrev Ends : List OpView → Type 0
Ends ops = ((s : OperationSet) × IsSetOf ops s × (size s ≤ 1_000_000)) ⊎ IsFirstRefusal ops IdentifierReused

-- what the law of one more operation says
pub record GrowthLaws : Type 0 where
  pub holds : HoldsBoth
  pub grows : (s : OperationSet) (op : OpView) → MayJoin s op → ¬ (Holds s op) → size (with_operation s op) ≡ size s + 1
  pub known : (s : OperationSet) (op : OpView) → Holds s op → with_operation s op ≡ s

ends : GrowthLaws → (before rest : List OpView) (s : OperationSet) → IsSetOf before s → size s + length rest ≤ 1_000_000 → Ends (before ++ rest)
ends laws before [] s h small = inl (s, subst (λ l. IsSetOf l s) (sym (append-nil before)) h, omega (arith, small))
ends laws before (op ∷ rest) s h small = elim (stands s op) [
  | inl reused ↦ inr (record { before = before; op = op; after = rest; kept = s; in_order = refl; of_before = h; limited = omega (arith, small); refused = reused })
  | inr joins ↦ subst Ends (append_assoc before (op ∷ []) rest) (elim joins [
    | inl held ↦ ends laws (before ++ op ∷ []) rest (with_operation s op) (IsSetOf-push laws.holds before op s h (Holds-may_join s op held)) (let same = ap size (laws.known s op held) in omega (arith, small, same))
    | inr new ↦ ends laws (before ++ op ∷ []) rest (with_operation s op) (IsSetOf-push laws.holds before op s h new.0) (let more = laws.grows s op new.0 new.1 in omega (arith, small, more))
  ])
]

-- ---- the same operations, in another order

Contains-moved : (before ops other : List OpView) (x : OpView) → IsPermutation ops other → Contains (before ++ ops) x → Contains (before ++ other) x
Contains-moved before ops other x moved h = elim (Contains-append_cases before ops x h) [
  | inl old ↦ Contains-append_left before other x old
  | inr new ↦ Contains-append_right before other x (Contains-permutation ops other x moved new)
]

IsSetOf-moved : (before ops other : List OpView) (s : OperationSet) → IsPermutation ops other → IsSetOf (before ++ ops) s → IsSetOf (before ++ other) s
IsSetOf-moved before ops other s moved h x =
    (λ held. Contains-moved before ops other x moved ((h x).0 held), λ listed. (h x).1 (Contains-moved before other ops x (IsPermutation-sym ops other moved) listed))

-- all are taken in one order, so they are the same set in the other
pub taken-reordered : (kept : OperationSet) (before ops other : List OpView) (s : OperationSet) → IsReordered kept ops other → IsSetOf (before ++ other) s → IsSetOf (before ++ ops) s
taken-reordered kept before ops other s (inl same) h = subst (λ l. IsSetOf (before ++ l) s) same h
taken-reordered kept before ops other s (inr moved) h = IsSetOf-moved before other ops s (IsPermutation-sym ops other moved.0) h

-- one is refused in one order, so one is in the other, for the same fault
refused-moved : GrowthLaws → ListLaws → (before ops other : List OpView) (kept : OperationSet) (fault : TakeFault) → IsPermutation ops other → IsSetOf before kept → size kept + length ops ≤ 1_000_000
    → IsFirstRefusal (before ++ other) fault → IsFirstRefusal (before ++ ops) fault
refused-moved growth lists before ops other kept fault moved h small refused =
    let long = length_permutation ops other moved in
    elim (ends growth before ops kept h small) [
      | inl all ↦ absurd (lists.none_refused (before ++ other) all.0 fault (IsSetOf-moved before ops other all.0 moved all.1) all.2 refused)
      | inr here ↦ elim (ends growth before other kept h (omega (arith, small, long))) [
        | inl all ↦ absurd (lists.none_refused (before ++ other) all.0 fault all.1 all.2 refused)
        | inr there ↦ subst (IsFirstRefusal (before ++ ops)) (lists.one_refusal (before ++ other) IdentifierReused fault there refused) here
      ]
    ]

refused-reordered : GrowthLaws → ListLaws → (kept : OperationSet) (before ops other : List OpView) (fault : TakeFault) → IsReordered kept ops other → IsSetOf before kept
    → IsFirstRefusal (before ++ other) fault → IsFirstRefusal (before ++ ops) fault
refused-reordered growth lists kept before ops other fault (inl same) h refused = subst (λ l. IsFirstRefusal (before ++ l) fault) same refused
refused-reordered growth lists kept before ops other fault (inr moved) h refused = refused-moved growth lists before ops other kept fault moved.0 h moved.1 refused

-- one desk refused one of further operations, in whichever order
pub refused-more : GrowthLaws → ListLaws → (before ops other : List OpView) (s : OperationSet) (r : Option TakeFault) (fault : TakeFault) → is_some r ≡ false → IsReordered s ops other
    → (IsSetOf before s → size s ≤ 1_000_000 → (fault ≡ Memory) ⊎ IsFirstRefusal (before ++ other) fault) → (fault ≡ Memory → ⊥) → HasTaken before s r → IsFirstRefusal (before ++ ops) fault
refused-more growth lists before ops other s (Some first) fault e reordered shown apart h = absurd cc
refused-more growth lists before ops other s None fault e reordered shown apart h = elim (shown h.0 h.1) [
  | inl memory ↦ absurd (apart memory)
  | inr refused ↦ refused-reordered growth lists s before ops other fault reordered h.0 refused
]

-- ---- operations that wait

-- further ones came
pub but-more : (waiting more ops : List OpView) (s : OperationSet) (r : Option TakeFault) → take (length waiting) more ≡ waiting → HasTakenBut waiting ops s r → HasTakenBut more (ops ++ added waiting more) s r
but-more waiting more ops s r grown h = (
  h.0,
  ap (λ (l : List OpView). l ++ added waiting more) h.1 ∙ append_assoc h.0 waiting (added waiting more) ∙ ap (λ (l : List OpView). h.0 ++ l) (added_all waiting more grown),
  h.2,
)
