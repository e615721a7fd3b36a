-- What rows tell, one after the other: their insertions, and the hidden ones among them.
use Rattle.std.proofs.Common.{◌≡◌, ◌+◌, ◌++◌, ℕ, true, cond, List, [], ◌∷◌, length, Some, ap, ◌∙◌}
use Rattle.std.specs.Prelude.{slice_get, filter, map as each}
use Rattle.std.proofs.lemmas.List.{map-append}
use Rattle.std.proofs.lemmas.List.Elements.{filter-append}
use Rattle.bg_types.specs.Identifier.{Identifier}
use Rattle.bg_types.specs.declared.op.OpView.TheVariants.{Erase}
use Rattle.rga_tree.specs.declared.element.Element.{Element}
use Rattle.rga_tree.specs.Row.{hidden_ids}
use Rattle.pending_ops.proofs.Interface.{slice_get-left}
use Rattle.desk_replica.specs.Desk.{insertion_of}
use Rattle.desk_replica.specs.Listed.{insertions_in, deletions_in}
use Rattle.desk_replica.proofs.Lists.{slice_get-right}

pub insertions-append : (xs ys : List Element) → insertions_in (xs ++ ys) ≡ insertions_in xs ++ insertions_in ys
insertions-append xs ys = map-append insertion_of xs ys

pub hidden-append : (xs ys : List Element) → hidden_ids (xs ++ ys) ≡ hidden_ids xs ++ hidden_ids ys
hidden-append xs ys =
    let hidden = λ (e : Element). e.hidden in
    ap (each (λ (e : Element). e.id)) (filter-append hidden xs ys) ∙ map-append (λ (e : Element). e.id) (filter hidden xs) (filter hidden ys)

pub deletions-append : (xs ys : List Element) → deletions_in (xs ++ ys) ≡ deletions_in xs ++ deletions_in ys
deletions-append xs ys = ap (each Erase) (hidden-append xs ys) ∙ map-append Erase (hidden_ids xs) (hidden_ids ys)

-- a row of one
pub hidden_one : (e : Element) → e.hidden ≡ true → hidden_ids (e ∷ []) ≡ e.id ∷ []
hidden_one e is = ap (λ b. each (λ (x : Element). x.id) (cond b (e ∷ []) [])) is

-- hidden element k of a row that is parted in three
pub hidden_middle : (all front row rest : List Element) (k left : ℕ) (x : Identifier) → all ≡ front ++ row ++ rest → k ≡ length (hidden_ids front) + left → slice_get (hidden_ids row) left ≡ Some x → slice_get (hidden_ids all) k ≡ Some x
hidden_middle all front row rest k left x parted at is =
    ap (λ l. slice_get l k) (ap hidden_ids parted ∙ hidden-append (front ++ row) rest ∙ ap (λ l. l ++ hidden_ids rest) (hidden-append front row))
    ∙ slice_get-left (hidden_ids front ++ hidden_ids row) (hidden_ids rest) k x (slice_get-right (hidden_ids front) (hidden_ids row) left k at ∙ is)
