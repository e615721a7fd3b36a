-- The entry that is next, and those that are left then.
use Rattle.std.proofs.Common.{◌∷◌, map, sym, ap, subst, ◌∙◌}
use Rattle.std.proofs.lemmas.List.Elements.{All-head, All-tail}
use Rattle.std.specs.List.{All}
use Rattle.cell_grid.specs.declared.entry.Entry.{Entry}
use Rattle.cell_grid.specs.Rows.{shifted_entry}
use Rattle.cell_grid.specs.Shifting.{MayShift}
use Rattle.live_document.proofs.window.WindowEntriesIterator.next.Goals as goal

pub shifted-requires : goal.shifted-requires
shifted-requires c =
    let inside = c.self.inside in
    let P : Entry → Type 0 = λ e. MayShift inside.bytes inside.places e.span in
    All-head P c.in_ok-entry.entry c.next.new.self (subst (All P) c.in_ok-entry.ensures.steps c.self.invariant)

pub invariant_of-self-2 : goal.invariant_of-self-2
invariant_of-self-2 c =
    let inside = c.self.inside in
    let P : Entry → Type 0 = λ e. MayShift inside.bytes inside.places e.span in
    All-tail P c.in_ok-entry.entry c.next.new.self (subst (All P) c.in_ok-entry.ensures.steps c.self.invariant)

pub returns-clause-steps : goal.returns-clause-steps
returns-clause-steps c =
    let inside = c.self.inside in
    let f = shifted_entry inside.bytes inside.places in
    sym c.self.view_is ∙ ap (map f) c.in_ok-entry.ensures.steps ∙ ap (λ x. x ∷ map f c.next.new.self) (sym c.shifted.ensures)
