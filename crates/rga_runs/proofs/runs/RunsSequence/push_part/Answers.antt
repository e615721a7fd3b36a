-- The goals of `push_part` that are answered by hand.
use Rattle.std.proofs.Common.{◌≡◌, ◌<◌, ◌*◌, ◌/◌, ◌%◌, ◌++◌, ◌∙◌, [], List, length, get_or, sym, ap, subst, arith}
use Rattle.std.specs.Prelude.{OnOk, string_bytes}
use Rattle.std.proofs.lemmas.List.{append-nil, get_or_past}
use Rattle.std.proofs.lemmas.Bool.{ltb-true}
use Rattle.rga_tree.specs.declared.element.Element.{Element}
use Rattle.rga_tree.proofs.Interface.{bytes_of}
use Rattle.rga_runs.specs.declared.stretch.Stretch.{Stretch}
use Rattle.rga_runs.specs.Stretches.{elements_of, parts_in}
use Rattle.rga_runs.specs.Filled.{filled}
use Rattle.rga_runs.specs.Blocks.{row_of, at_spot}
use Rattle.rga_runs.specs.BlockRows.{items_of}
use Rattle.rga_runs.specs.Whole.{few_items}
use Rattle.rga_runs.proofs.BlockLists.{length-items, items_at}
use Rattle.rga_runs.proofs.Chunks.{at_less, get_or_row}
use Rattle.rga_runs.proofs.Filled.{length-parts_filled, part_at}
use Rattle.rga_runs.proofs.Rows.{length-parts, part_there, stored_at, stored_le}
use Rattle.rga_runs.proofs.runs.RunsSequence.push_part.Goals as goal

pub index-requires : goal.index-requires
index-requires c =
    let self = c.args.self.now in
    let chars = self.characters.items in
    let bs = self.row.blocks.items in
    let xs = items_of bs in
    let p = c.args.p in
    let b = p / 256 in
    let j = p % 256 in
    let less : p < 256 * length xs = omega (arith, c.requires.part, length-parts_filled chars xs) in
    let there : b < length bs = omega (arith, less, length-items bs) in
    omega (arith, there, self.row.blocks.ok)

pub push_shown-requires-clause-stored : goal.push_shown-requires-clause-stored
push_shown-requires-clause-stored c =
    let self = c.args.self.now in
    let chars = self.characters.items in
    let bs = self.row.blocks.items in
    let xs = items_of bs in
    let p = c.args.p in
    let b = p / 256 in
    let j = p % 256 in
    let less : p < 256 * length xs = omega (arith, c.requires.part, length-parts_filled chars xs) in
    let there : b < length bs = omega (arith, less, length-items bs) in
    let s = c.in-Some.stretch.now in
    let here = items_at bs b c.index.result.now there c.index.ensures in
    let read = c.deref.ensures.value in
    let within : j < length (get_or xs b []) = omega (arith, ltb-true _ _ (sym c.in-Some.ensures.lookup.0), ap length read, ap length here) in
    let item : s ≡ get_or (get_or xs b []) j s = c.in-Some.ensures.lookup.1 ∙ ap (λ (l : List Stretch). get_or l j s) (read ∙ sym here) in
    let row : s ≡ get_or (row_of xs) (at_spot xs b j) s = item ∙ sym (get_or_row xs b j s (omega (arith, there, length-items bs)) within) in
    let stored = stored_at (length chars) (row_of xs) (at_spot xs b j) s self.stored (at_less xs b j (omega (arith, there, length-items bs)) within) in
    let last = stored_le (length chars) (get_or (row_of xs) (at_spot xs b j) s) stored in
    omega (arith, last, ap (λ (z : Stretch). z.start) row, ap (λ (z : Stretch). z.count) row, ap length c.deref-in-Some.ensures.value)

pub returns-in-Some : goal.returns-in-Some
returns-in-Some c =
    let self = c.args.self.now in
    let chars = self.characters.items in
    let bs = self.row.blocks.items in
    let xs = items_of bs in
    let p = c.args.p in
    let b = p / 256 in
    let j = p % 256 in
    let less : p < 256 * length xs = omega (arith, c.requires.part, length-parts_filled chars xs) in
    let there : b < length bs = omega (arith, less, length-items bs) in
    let s = c.in-Some.stretch.now in
    let here = items_at bs b c.index.result.now there c.index.ensures in
    let read = c.deref.ensures.value in
    let within : j < length (get_or xs b []) = omega (arith, ltb-true _ _ (sym c.in-Some.ensures.lookup.0), ap length read, ap length here) in
    let item : s ≡ get_or (get_or xs b []) j s = c.in-Some.ensures.lookup.1 ∙ ap (λ (l : List Stretch). get_or l j s) (read ∙ sym here) in
    let part : get_or (filled chars xs) p [] ≡ elements_of chars s = part_at chars xs p (few_items bs) less ∙ part_there chars (get_or xs b []) j s within ∙ ap (elements_of chars) (sym item) in
    let row = ap (λ l. elements_of l s) c.deref-in-Some.ensures.value ∙ sym part in
    subst (λ (es : List Element). OnOk c.push_shown.result (string_bytes c.push_shown.new.read ≡ string_bytes c.args.read.now ++ bytes_of es)) row c.push_shown.ensures

pub returns-in-None : goal.returns-in-None
returns-in-None c =
    let self = c.args.self.now in
    let chars = self.characters.items in
    let bs = self.row.blocks.items in
    let xs = items_of bs in
    let p = c.args.p in
    let b = p / 256 in
    let j = p % 256 in
    let less : p < 256 * length xs = omega (arith, c.requires.part, length-parts_filled chars xs) in
    let there : b < length bs = omega (arith, less, length-items bs) in
    let here = items_at bs b c.index.result.now there c.index.ensures in
    let past = c.in-None.ensures.lookup.3 in
    let none : get_or (filled chars xs) p [] ≡ [] =
    part_at chars xs p (few_items bs) less ∙ get_or_past (parts_in chars (get_or xs b [])) j [] (omega (arith, length-parts chars (get_or xs b []), past, ap length c.deref.ensures.value, ap length here)) in
    let read = string_bytes c.args.read.now in
    sym (ap (λ es. read ++ bytes_of es) none ∙ append-nil read)
