-- What is known of the insertions of a set, in rising order.
use Rattle.std.proofs.Common.{◌≡◌, Bool, true, false, cond, T, List, [], ◌∷◌, Some, None, refl, sym, ap, ◌∙◌, true≢false}
use Rattle.std.specs.declared.cmp.Ordering.TheVariants.{Less}
use Rattle.std.specs.Ordering.{nat_cmp, ordering_then}
use Rattle.std.specs.Cmp.{nat_cmp_is}
use Rattle.std.specs.List.{AllByRecursion}
use Rattle.std.specs.FinMap as map
use Rattle.std.specs.FinMap.Entries.{find, is_sorted, below_all}
use Rattle.bg_types.specs.Identifier.{Identifier, id_cmp, same_id}
use Rattle.bg_types.specs.WellFormed.{MayFollow}
use Rattle.bg_types.specs.OperationSet.{OperationSet, AllWellFormed}
use Rattle.bg_types.specs.declared.op.Place.{Place}
use Rattle.bg_types.specs.declared.op.Place.TheVariants.{Root, After}
use Rattle.bg_types.specs.declared.op.OpView.TheVariants.{Insert}
use Rattle.bg_types.proofs.Interface.{all_weaker, both_of, above_of, entries-found, none_of}
use Rattle.rga_tree.specs.Walk.{same_place}
use Rattle.rga_tree.specs.Leaf.{IsParent}
use Rattle.rga_tree.specs.Tree.{stands_in, IsTree}
use Rattle.rga_tree.proofs.WalkAmong.{Entry, Rises, AreWellFounded, IsLow, IsChildless, same_is}

-- none of these has the identifier
abbrev pub IsAbsent : Identifier → List Entry → Type 0
IsAbsent a es = AllByRecursion (λ e. same_id a e.0 ≡ false) es

pub absent_of : (q : Identifier) (es : List Entry) → find id_cmp q es ≡ None → IsAbsent q es
absent_of q [] h = tt
absent_of q (x ∷ es) h =
    elim (same_id q x.0) as (λ b. cond b (Some x.1) (find id_cmp q es) ≡ None → (b ≡ false) × IsAbsent q es) [
      | true ↦ λ e. absurd cc
      | false ↦ λ e. (refl, absent_of q es e)
    ] h

rises_of : (es : List Entry) → T (is_sorted id_cmp es) → Rises es
rises_of [] h = tt
rises_of (e ∷ es) h = let p = both_of (below_all id_cmp e.0 es) (is_sorted id_cmp es) h in (above_of e.0 es p.0, rises_of es p.1)

abbrev pub entries_of : OperationSet → List Entry
entries_of s = map.entries s.ins

pub Rises-entries : (s : OperationSet) → Rises (entries_of s)
Rises-entries s = rises_of (entries_of s) (map.entries_sorted s.ins)

-- what holds of each insertion of a set holds of each entry
pub all_entries : (s : OperationSet) (P : Entry → Type 0) → ((e : Entry) → map.get s.ins e.0 ≡ Some e.1 → P e) → AllByRecursion P (entries_of s)
all_entries s P f = all_weaker (λ e. map.get s.ins e.0 ≡ Some e.1) P f (entries_of s) (entries-found s.ins)

-- a parent is below its child
pub low_of : (p : Place) (k : Identifier) → MayFollow p k → IsLow p k
low_of Root k h = tt
low_of (After a) k h = ap (λ o. ordering_then o (nat_cmp a.site k.site)) (sym (nat_cmp_is a.counter k.counter Less h.1))

pub AreWellFounded-entries : (s : OperationSet) → AllWellFormed s → AreWellFounded (entries_of s)
AreWellFounded-entries s well = all_entries s (λ e. IsLow e.1.parent e.0) (λ e held. low_of e.1.parent e.0 (well (Insert e.0 e.1.parent e.1.ch) held).1)

-- what is no parent has no child
pub childless : (s : OperationSet) (id : Identifier) → (IsParent s id → ⊥) → IsChildless id (entries_of s)
childless s id none = all_entries s (λ e. same_place e.1.parent (After id) ≡ false) (λ e held. by_test e held (same_place e.1.parent (After id)) refl) where
  by_test : (e : Entry) → map.get s.ins e.0 ≡ Some e.1 → (b : Bool) → same_place e.1.parent (After id) ≡ b → b ≡ false
  by_test e held true is = absurd (none (e.0, e.1, held, same_is e.1.parent (After id) is))
  by_test e held false is = refl

-- where each parent is in the set, a new identifier is none
pub no_parent : (s : OperationSet) (id : Identifier) → IsTree s → map.contains_key s.ins id ≡ false → IsParent s id → ⊥
no_parent s id tree new h = true≢false (sym (ap (stands_in s) (sym h.3) ∙ tree h.0 h.1 h.2) ∙ new)

-- and none of its insertions has it
pub IsAbsent-entries : (s : OperationSet) (id : Identifier) → map.contains_key s.ins id ≡ false → IsAbsent id (entries_of s)
IsAbsent-entries s id new = absent_of id (entries_of s) (sym (map.get-entries s.ins id) ∙ none_of (map.get s.ins id) new)
