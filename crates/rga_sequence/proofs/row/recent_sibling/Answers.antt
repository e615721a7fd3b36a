-- The goal of `recent_sibling` that is answered by hand.
use Rattle.std.proofs.Common.{◌≡◌, ◌+◌, ◌<◌, ◌∙◌, true, sym, ap, length, rules, arith}
use Rattle.std.specs.Ordering.{is_lt}
use Rattle.bg_types.specs.Identifier.{id_cmp}
use Rattle.bg_types.specs.declared.op.Place.{Place}
use Rattle.rga_tree.specs.Row.{place_of}
use Rattle.rga_tree.proofs.Interface.{place_behind_sibling, offset_less}
use Rattle.rga_sequence.specs.BlockRows.{items_of}
use Rattle.rga_sequence.specs.Blocks.{offset}
use Rattle.rga_sequence.specs.Indexed.{elements_in}
use Rattle.rga_sequence.proofs.Numbers.{length-items}
use Rattle.rga_sequence.proofs.row.recent_sibling.Goals as goal

pub returns-then-lt-clause-place : goal.returns-then-lt-clause-place
returns-then-lt-clause-place c =
    let bs = c.args.row.now.blocks in
    let xs = items_of bs.items in
    let row = elements_in c.args.row.now in
    let p = c.in_ok-p.p in
    let at = c.in_ok-p.at in
    let sibling = c.in_ok-p.last in
    let there : p < length xs = omega (arith, length-items bs.items, c.in_ok-p.ensures.block, bs.ok) in
    let less : offset xs p at < length row = offset_less xs p at there c.in_ok-p.ensures.within in
    let one_parent : sibling.parent ≡ c.args.parent.now = search rules in
    let greater : is_lt (id_cmp c.args.id sibling.id) ≡ true = search rules in
    let next : offset xs p (at + 1) ≡ offset xs p at + 1 = omega arith in
    rw next (sym (place_behind_sibling row c.requires.keeps_walk (offset xs p at) sibling c.args.id less c.in_ok-p.ensures.element greater) ∙ ap (λ (q : Place). place_of q c.args.id row) one_parent)
