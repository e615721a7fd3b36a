-- The goals of `shown` that are answered by hand.
use Rattle.std.proofs.Common.{◌≡◌, ℕ, ◌∷◌, [], List, Some, length, get_or, not, ap, sym, ◌∙◌, arith}
use Rattle.std.proofs.lemmas.List.{append-nil}
use Rattle.std.proofs.lemmas.Option.{get_or_from_slice_get}
use Rattle.std.specs.Prelude.{filter, slice_get}
use Rattle.rga_tree.specs.declared.element.Element.{Element}
use Rattle.rga_tree.specs.Spot.{seen, IsVisiblePlace}
use Rattle.rga_tree.proofs.Seen.{seen_at, visible_row}
use Rattle.rga_tree.proofs.VisiblePlaces.{place_within, visible_at}
use Rattle.rga_tree.proofs.plain.Plain.shown.Goals as goal

-- what was read at the place of a visible element is that element
visible_there : (row d : List Element) (k at : ℕ) (e x : Element) → d ≡ row → IsVisiblePlace (d ∷ []) k 0 at e → x ≡ get_or row at x → slice_get (filter (λ y. not y.hidden) row) k ≡ Some x
visible_there row d k at e x same place is =
    let there : slice_get row at ≡ Some e = ap (λ r. slice_get r at) (sym same) ∙ place.there in
    ap (λ r. slice_get (filter (λ (y : Element). not y.hidden) r) k) (sym (append-nil d ∙ same)) ∙ visible_at (d ∷ []) k 0 at e place ∙ ap Some (sym (is ∙ get_or_from_slice_get row at e x there))

pub place_of_visible-requires : goal.place_of_visible-requires
place_of_visible-requires c =
    let row = c.args.self.now.row.items in
    omega (arith, ap seen c.deref.ensures.value, visible_row row c.args.self.now.keeps_walk.in_order, c.requires)

pub index-requires : goal.index-requires
index-requires c =
    let at = c.place_of_visible in
    let within = place_within (c.deref.result.now ∷ []) c.args.k 0 at.result at.ensures.0 at.ensures.1 in
    omega (arith, within.1, ap (λ (r : List Element). length r) c.deref.ensures.value, c.args.self.now.row.ok)

pub returns-clause-id : goal.returns-clause-id
returns-clause-id c =
    let row = c.args.self.now.row.items in
    let at = c.place_of_visible in
    (seen_at row c.args.k c.index.result.now c.args.self.now.keeps_walk.in_order (visible_there row c.deref.result.now c.args.k at.result at.ensures.0 c.index.result.now c.deref.ensures.value at.ensures.1 c.index.ensures)).0

pub returns-clause-ch : goal.returns-clause-ch
returns-clause-ch c =
    let row = c.args.self.now.row.items in
    let at = c.place_of_visible in
    (seen_at row c.args.k c.index.result.now c.args.self.now.keeps_walk.in_order (visible_there row c.deref.result.now c.args.k at.result at.ensures.0 c.index.result.now c.deref.ensures.value at.ensures.1 c.index.ensures)).1
