-- One more size was written.
use Rattle.std.proofs.Common.{◌≡◌, ◌<◌, ◌+◌, ◌∙◌, ◌++◌, List, length, map, take, drop, set, get_or, sym, ap, subst, arith}
use Rattle.std.proofs.lemmas.Iterator.Consumers.{YieldsList-from_first, YieldsList-turn, YieldsList-end}
use Rattle.std.proofs.lemmas.List.{length_push}
use Rattle.cell_grid.specs.declared.entry.Entry.{Entry}
use Rattle.cell_grid.specs.Print.{own_text}
use Rattle.cell_grid.specs.Printable.{IsSlice}
use Rattle.cell_grid.proofs.Filling.{filled_next}
use Rattle.cell_grid.proofs.Steps.{take-whole}
use Rattle.cell_grid.proofs.entry_sizes.row_entry_sizes.Goals as goal

pub cells_size-requires : goal.cells_size-requires
cells_size-requires c =
    let list = YieldsList-from_first (λ x. x) (λ (left : List Entry). left) c.args.row.now.entries (c.into_iter-entry-iterator.ensures.into_iter_gives ∙ c.entries-entry-items.ensures) in
    let turn = YieldsList-turn list c.loop-entry.yielded _ c.loop-entry.yielded_by _ _ c.in-Some.entry c.in-Some.is c.next.ensures.steps in
    subst (λ (e : Entry). IsSlice c.args.text.now e.span) (sym turn.1) (c.requires.entries (length c.loop-entry.yielded) c.in-Some.entry turn.0)

pub bounds-sizes-number : goal.bounds-sizes-number
bounds-sizes-number c =
    let list = YieldsList-from_first (λ x. x) (λ (left : List Entry). left) c.args.row.now.entries (c.into_iter-entry-iterator.ensures.into_iter_gives ∙ c.entries-entry-items.ensures) in
    let turn = YieldsList-turn list c.loop-entry.yielded _ c.loop-entry.yielded_by _ _ c.in-Some.entry c.in-Some.is c.next.ensures.steps in
    omega (arith, turn.0, c.requires.room, c.loop-entry.invariant.counted)

pub loop-entry-preserved : goal.loop-entry-preserved
loop-entry-preserved c =
    let entries = c.args.row.now.entries in
    let list = YieldsList-from_first (λ x. x) (λ (left : List Entry). left) entries (c.into_iter-entry-iterator.ensures.into_iter_gives ∙ c.entries-entry-items.ensures) in
    let turn = YieldsList-turn list c.loop-entry.yielded _ c.loop-entry.yielded_by _ _ c.in-Some.entry c.in-Some.is c.next.ensures.steps in
    let number = c.loop-entry.number in
    let counted = c.loop-entry.invariant.counted in
    let f = λ (e : Entry). length (own_text c.args.tables.now c.args.text.now e) in
    let is : c.in-Some.entry ≡ get_or entries number c.in-Some.entry = turn.1 ∙ ap (λ n. get_or entries n c.in-Some.entry) (sym counted) in
    let within : number < length entries = omega (arith, turn.0, counted) in
    let room : length entries < length c.args.sizes.now + 1 = omega (arith, c.requires.room) in
    let more = length_push c.loop-entry.yielded c.in-Some.entry in
    let size = c.cells_size.ensures.size ∙ ap f is in
    record {
      counted = omega (arith, counted, more);
      written = (λ i. set (c.loop-entry.invariant.written i) number (size i)) ∙ filled_next f entries c.args.sizes.now number c.in-Some.entry within room;
    }

pub returns : goal.returns
returns c =
    let entries = c.args.row.now.entries in
    let list = YieldsList-from_first (λ x. x) (λ (left : List Entry). left) entries (c.into_iter-entry-iterator.ensures.into_iter_gives ∙ c.entries-entry-items.ensures) in
    let end = YieldsList-end list c.loop-entry.yielded _ c.loop-entry.yielded_by _ _ c.in-None.is c.next.ensures.steps in
    let f = λ (e : Entry). length (own_text c.args.tables.now c.args.text.now e) in
    let all = c.loop-entry.invariant.counted ∙ end.1 in
    c.loop-entry.invariant.written
    ∙ ap (λ n. map f (take n entries) ++ drop n c.args.sizes.now) all
    ∙ ap (λ l. map f l ++ drop (length entries) c.args.sizes.now) (take-whole entries (length entries) (omega arith))
