-- The goal of `place_for` that is answered by hand.
use Rattle.std.proofs.Common.{◌≡◌, ◌+◌, sym, ap, ◌∙◌, drop}
use Rattle.std.specs.List.{prefix_len}
use Rattle.std.specs.Ordering.{is_lt}
use Rattle.std.proofs.lemmas.List.{take_rest}
use Rattle.bg_types.specs.Identifier.{id_cmp}
use Rattle.bg_types.specs.declared.op.Place.{Place}
use Rattle.rga_tree.specs.declared.element.Element.{Element}
use Rattle.rga_tree.specs.Row.{start_of}
use Rattle.rga_tree.proofs.plain.place_for.Goals as goal
use Rattle.rga_tree.proofs.plain.place_for.Goals.{in-Root, in-After}

pub returns-clause-place : goal.returns-clause-place
returns-clause-place c =
    let row = c.args.row.now in
    let from : c.match-parent.start ≡ start_of c.args.parent.now row = elim c.match-parent.branch [
      | in-Root w ↦ w.start-is ∙ ap (λ (p : Place). start_of p row) (sym w.in-Root.is)
      | in-After w ↦ w.start-is ∙ ap (λ n. n + 1) w.before-in-After.ensures ∙ ap (λ (p : Place). start_of p row) (sym w.in-After.is)
    ] in
    let greater = λ (e : Element). is_lt (id_cmp c.args.id e.id) in
    let count = c.greater_in_front.ensures.count ∙ ap (prefix_len greater) (take_rest row c.match-parent.start) ∙ ap (λ n. prefix_len greater (drop n row)) from in
    λ i. from i + count i
