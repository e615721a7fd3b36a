-- The entry of the row that is kept, where the row stands in the text.
use Rattle.std.proofs.Common.{◌<◌, length, slice_get, Some, refl, sym, ap, subst, ◌∙◌, arith}
use Rattle.std.proofs.lemmas.List.{length-map}
use Rattle.std.proofs.lemmas.Option.{slice_get-map, slice_get-get_or}
use Rattle.std.specs.Option.{option_map}
use Rattle.std.specs.Prelude.{IsSome}
use Rattle.cell_grid.specs.declared.entry.Entry.{Entry}
use Rattle.cell_grid.specs.Rows.{DrawnRow, shifted_entry}
use Rattle.cell_grid.specs.Shifting.{MayShift}
use Rattle.cell_grid.proofs.Interface.{all_at}
use Rattle.live_document.proofs.window.WindowRow.entry.Goals as goal

pub unwrap-entry-requires : goal.unwrap-entry-requires
unwrap-entry-requires c =
    let inside = c.self.inside in
    let es = inside.row.now.entries in
    let none : Entry = record { span = record { first_byte = 0; end_byte = 0; first_place = 0; end_place = 0 }; column = 0; level = 0; columns = 0 } in
    let same = ap (λ (r : DrawnRow). length r.entries) c.self.view_is in
    let many = length-map es (shifted_entry inside.bytes inside.places) in
    let within : c.args.number < length es = omega (arith, c.requires) in
    subst IsSome (sym (c.entry.ensures ∙ slice_get-get_or es c.args.number none within)) refl

pub shifted-requires : goal.shifted-requires
shifted-requires c =
    let inside = c.self.inside in
    all_at (λ (e : Entry). MayShift inside.bytes inside.places e.span) inside.row.now.entries c.args.number c.unwrap-entry.result c.self.invariant.entries
    (sym c.entry.ensures ∙ c.unwrap-entry.ensures)

pub returns : goal.returns
returns c =
    let inside = c.self.inside in
    let f = shifted_entry inside.bytes inside.places in
    sym (ap (λ (r : DrawnRow). slice_get r.entries c.args.number) c.self.view_is)
    ∙ slice_get-map f inside.row.now.entries c.args.number
    ∙ ap (option_map f) (sym c.entry.ensures ∙ c.unwrap-entry.ensures)
    ∙ sym (ap Some c.shifted.ensures)
