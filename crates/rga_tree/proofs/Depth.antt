-- The depth to which the walk goes is enough, where each parent is below its child.
use Rattle.std.proofs.Common.{◌≡◌, ℕ, zero, suc, ◌≤◌, true, false, cond, List, [], ◌∷◌, ◌++◌, length, refl, sym, ap, ◌∙◌, arith}
use Rattle.std.specs.Prelude.{filter, reverse}
use Rattle.std.specs.List.{AllByRecursion, flat_map}
use Rattle.std.proofs.lemmas.List.{append-nil, reverse-append}
use Rattle.std.proofs.lemmas.List.Concat.{flat_map-cons}
use Rattle.std.proofs.lemmas.Grind.{flat_map-append}
use Rattle.std.specs.FinMap as map
use Rattle.bg_types.specs.OperationSet.{OperationSet, AllWellFormed}
use Rattle.bg_types.specs.declared.op.Place.{Place}
use Rattle.bg_types.specs.declared.op.Place.TheVariants.{After}
use Rattle.bg_types.proofs.Interface.{all_weaker}
use Rattle.rga_tree.specs.Walk.{Insertions, same_place, children, walk_to, walk}
use Rattle.rga_tree.proofs.WalkAmong.{Entry, walk_among, Rises, AreAbove, AreWellFounded, IsLow, low_all, not_at}
use Rattle.rga_tree.proofs.Entries.{entries_of, Rises-entries, AreWellFounded-entries}
use Rattle.rga_tree.proofs.Preorder.{children_among, flat_map-same, all_reverse, all_filter, walk_among-children}

-- the walk to a depth, among insertions in rising order
abbrev pub walk_deep : ℕ → List Entry → Place → List Entry
walk_deep zero es q = []
walk_deep (suc depth) es q = flat_map (λ e. e ∷ walk_deep depth es (After e.0)) (children_among es q)

walk_to-entries : (depth : ℕ) (ins : Insertions) (q : Place) → walk_to depth ins q ≡ walk_deep depth (map.entries ins) q
walk_to-entries zero ins q = refl
walk_to-entries (suc depth) ins q = λ i. flat_map (λ e. e ∷ walk_to-entries depth ins (After e.0) i) (children ins q)

-- the least insertion stands below no other one
walk_deep-least : (depth : ℕ) (x : Entry) (rest : List Entry) (q : Place) → IsLow x.1.parent x.0 → AreAbove x.0 rest → same_place x.1.parent q ≡ false
    → walk_deep depth (x ∷ rest) q ≡ walk_deep depth rest q
walk_deep-least zero x rest q low above other = refl
walk_deep-least (suc depth) x rest q low above other =
    let all = filter (λ e. same_place e.1.parent q) rest in
    ap (λ b. flat_map (λ e. e ∷ walk_deep depth (x ∷ rest) (After e.0)) (reverse (cond b (x ∷ all) all))) other
    ∙ flat_map-same (λ e. e ∷ walk_deep depth (x ∷ rest) (After e.0)) (λ e. e ∷ walk_deep depth rest (After e.0)) (reverse all)
    (all_reverse _ all (all_filter _ (λ e. same_place e.1.parent q) rest
    (all_weaker (λ e. IsLow x.1.parent e.0) (λ e. (e ∷ walk_deep depth (x ∷ rest) (After e.0)) ≡ (e ∷ walk_deep depth rest (After e.0)))
    (λ e low_e. ap (λ t. e ∷ t) (walk_deep-least depth x rest (After e.0) low above (not_at x.1.parent e.0 low_e)))
    rest (low_all x.1.parent x.0 rest low above))))

-- a chain of parents is no longer than there are insertions
pub walk_deep-among : (depth : ℕ) (es : List Entry) (q : Place) → length es ≤ depth → Rises es → AreWellFounded es → walk_deep depth es q ≡ walk_among es q
walk_deep-among zero [] q enough rises founded = refl
walk_deep-among (suc depth) [] q enough rises founded = refl
walk_deep-among zero (x ∷ rest) q enough rises founded = absurd (omega arith)
walk_deep-among (suc depth) (x ∷ rest) q enough rises founded =
    let all = filter (λ e. same_place e.1.parent q) rest in
    let deep = λ (e : Entry). e ∷ walk_deep depth (x ∷ rest) (After e.0) in
    let among = λ (e : Entry). e ∷ walk_among rest (After e.0) in
    let step : (e : Entry) → IsLow x.1.parent e.0 → deep e ≡ among e =
    λ e low. ap (λ t. e ∷ t) (walk_deep-least depth x rest (After e.0) founded.0 rises.0 (not_at x.1.parent e.0 low)
    ∙ walk_deep-among depth rest (After e.0) (omega arith) rises.1 founded.1) in
    let agree : AllByRecursion (λ e. deep e ≡ among e) (reverse all) =
    all_reverse _ all (all_filter _ (λ e. same_place e.1.parent q) rest
    (all_weaker (λ e. IsLow x.1.parent e.0) (λ e. deep e ≡ among e) step rest (low_all x.1.parent x.0 rest founded.0 rises.0))) in
    let others : flat_map deep (reverse all) ≡ walk_among rest q = flat_map-same deep among (reverse all) agree ∙ sym (walk_among-children rest q rises.1 founded.1) in
    elim (same_place x.1.parent q) as (λ b. flat_map deep (reverse (cond b (x ∷ all) all)) ≡ walk_among rest q ++ cond b (x ∷ walk_among rest (After x.0)) []) [
      | true ↦ ap (flat_map deep) (reverse-append (x ∷ []) all) ∙ flat_map-append deep (reverse all) (x ∷ [])
          ∙ (λ i. others i ++ (flat_map-cons deep x [] ∙ append-nil (deep x) ∙ step x founded.0) i)
      | false ↦ others ∙ sym (append-nil (walk_among rest q))
    ]

-- the walk of a set, by recursion over its insertions
pub walk_to-among : (s : OperationSet) (depth : ℕ) (q : Place) → map.len s.ins ≤ depth → AreWellFounded (entries_of s) → walk_to depth s.ins q ≡ walk_among (entries_of s) q
walk_to-among s depth q enough founded =
    walk_to-entries depth s.ins q ∙ walk_deep-among depth (entries_of s) q (omega (arith, map.len-entries s.ins)) (Rises-entries s) founded

pub walk-among : (s : OperationSet) (q : Place) → AllWellFormed s → walk s q ≡ walk_among (entries_of s) q
walk-among s q well = walk_to-among s (map.len s.ins) q (omega arith) (AreWellFounded-entries s well)
