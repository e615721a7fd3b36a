-- Where an entry of the walk stands among the elements.
use Rattle.std.proofs.Common.{◌≡◌, ℕ, zero, suc, true, false, List, [], ◌∷◌, Some, sym, ap, subst, ◌∙◌, refl, true≢false}
use Rattle.std.specs.Prelude.{◌||◌, slice_get}
use Rattle.std.specs.FinMap as map
use Rattle.bg_types.specs.Identifier.{Identifier, same_id}
use Rattle.bg_types.specs.OperationSet.{Node, OperationSet, AllWellFormed}
use Rattle.bg_types.specs.declared.op.Place.TheVariants.{Root}
use Rattle.bg_types.specs.declared.op.OpView.TheVariants.{Insert}
use Rattle.bg_types.proofs.Interface.{same_id-is, some_is}
use Rattle.rga_tree.specs.declared.element.Element.{Element}
use Rattle.rga_tree.specs.Walk.{walk}
use Rattle.rga_tree.specs.Elements.{elements, element_of}
use Rattle.rga_tree.proofs.Interface.{Entry, is_listed, all_held}
use Rattle.desk_replica.proofs.Lists.{slice_get-from, slice_get-to, all_at}
use Rattle.bg_types.specs.WellFormed.{MayFollow}

-- where a listed identifier stands
index_of : (q : Identifier) (es : List Entry) → is_listed q es ≡ true → (j : ℕ) × ((n : Node) × (slice_get es j ≡ Some (q, n)))
index_of q [] h = absurd (true≢false (sym h))
index_of q (e ∷ es) h =
    elim (same_id q e.0) as (λ b. same_id q e.0 ≡ b → (b || is_listed q es) ≡ true → (j : ℕ) × ((n : Node) × (slice_get (e ∷ es) j ≡ Some (q, n)))) [
      | true ↦ λ here _. (zero, (e.1, ap (λ (x : Identifier). Some (x, e.1)) (sym (same_id-is q e.0 here))))
      | false ↦ λ _ h. let r = index_of q es h in (suc r.0, (r.1.0, r.1.1))
    ] refl h

-- the element at a place of the walk is that of its entry, which is kept
pub element_at : (s : OperationSet) (j : ℕ) (e : Element) → slice_get (elements s) j ≡ Some e → (x : Entry) × ((map.get s.ins x.0 ≡ Some x.1) × (element_of s x ≡ e))
element_at s j e h =
    let f = slice_get-from (element_of s) (walk s Root) j e h in
    (f.0, (all_at (λ (y : Entry). map.get s.ins y.0 ≡ Some y.1) (walk s Root) j f.0 (all_held s (map.len s.ins) Root) f.1.0, f.1.1))

pub element_for : (s : OperationSet) (q : Identifier) (n : Node) → is_listed q (walk s Root) ≡ true → map.get s.ins q ≡ Some n → (j : ℕ) × (slice_get (elements s) j ≡ Some (element_of s (q, n)))
element_for s q n listed held =
    let f = index_of q (walk s Root) listed in
    let known : map.get s.ins q ≡ Some f.1.0 = all_at (λ (y : Entry). map.get s.ins y.0 ≡ Some y.1) (walk s Root) f.0 (q, f.1.0) (all_held s (map.len s.ins) Root) f.1.1 in
    let same : f.1.0 ≡ n = some_is f.1.0 n (sym known ∙ held) in
    (f.0, slice_get-to (element_of s) (walk s Root) f.0 (q, n) (f.1.1 ∙ ap (λ (m : Node). Some (q, m)) same))

-- an element may follow its parent
pub follows_parent : (t : OperationSet) (j : ℕ) (e : Element) → AllWellFormed t → slice_get (elements t) j ≡ Some e → MayFollow e.parent e.id
follows_parent t j e well h =
    let x = element_at t j e h in
    subst (λ (y : Element). MayFollow y.parent y.id) x.1.1 (well (Insert x.0.0 x.0.1.parent x.0.1.ch) x.1.0).1
