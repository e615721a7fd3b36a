-- One more entry was written.
use Rattle.std.proofs.Common.{◌≡◌, ◌<◌, ◌+◌, ◌∙◌, ◌++◌, List, length, map, take, drop, set, get_or, sym, ap, arith}
use Rattle.std.proofs.lemmas.Iterator.Consumers.{YieldsList-from_first, YieldsList-turn, YieldsList-end}
use Rattle.std.proofs.lemmas.List.{length_push}
use Rattle.cell_grid.specs.declared.entry.Entry.{Entry}
use Rattle.cell_grid.proofs.Interface.{filled_next, take-whole}
use Rattle.c_pictures.specs.Numbers.{entry_numbers}
use Rattle.c_pictures.proofs.picture.write_entries.Goals as goal

pub bounds-out-number : goal.bounds-out-number
bounds-out-number c =
    let list = YieldsList-from_first (λ x. x) (λ (left : List Entry). left) c.args.row.now.entries (c.into_iter-entry-iterator.ensures.into_iter_gives ∙ c.entries-entry-items.ensures) in
    let turn = YieldsList-turn list c.loop-entry.yielded _ c.loop-entry.yielded_by _ _ c.in-Some.entry c.in-Some.is c.next.ensures.steps in
    omega (arith, turn.0, c.requires, c.loop-entry.invariant.counted)

pub loop-entry-preserved : goal.loop-entry-preserved
loop-entry-preserved c =
    let entries = c.args.row.now.entries in
    let list = YieldsList-from_first (λ x. x) (λ (left : List Entry). left) entries (c.into_iter-entry-iterator.ensures.into_iter_gives ∙ c.entries-entry-items.ensures) in
    let turn = YieldsList-turn list c.loop-entry.yielded _ c.loop-entry.yielded_by _ _ c.in-Some.entry c.in-Some.is c.next.ensures.steps in
    let number = c.loop-entry.number in
    let counted = c.loop-entry.invariant.counted in
    let is : c.in-Some.entry ≡ get_or entries number c.in-Some.entry = turn.1 ∙ ap (λ n. get_or entries n c.in-Some.entry) (sym counted) in
    let within : number < length entries = omega (arith, turn.0, counted) in
    let room : length entries < length c.args.out.now + 1 = omega (arith, c.requires) in
    let more = length_push c.loop-entry.yielded c.in-Some.entry in
    let numbers = c.entry_numbers.ensures ∙ ap entry_numbers is in
    record {
      counted = omega (arith, counted, more);
      written = (λ i. set (c.loop-entry.invariant.written i) number (numbers i)) ∙ filled_next entry_numbers entries c.args.out.now number c.in-Some.entry within room;
    }

pub returns : goal.returns
returns c =
    let entries = c.args.row.now.entries in
    let list = YieldsList-from_first (λ x. x) (λ (left : List Entry). left) entries (c.into_iter-entry-iterator.ensures.into_iter_gives ∙ c.entries-entry-items.ensures) in
    let end = YieldsList-end list c.loop-entry.yielded _ c.loop-entry.yielded_by _ _ c.in-None.is c.next.ensures.steps in
    let all = c.loop-entry.invariant.counted ∙ end.1 in
    c.loop-entry.invariant.written
    ∙ ap (λ n. map entry_numbers (take n entries) ++ drop n c.args.out.now) all
    ∙ ap (λ l. map entry_numbers l ++ drop (length entries) c.args.out.now) (take-whole entries (length entries) (omega arith))
