-- The goals of `visible_before` that are answered by hand.
use Rattle.std.proofs.Common.{◌≡◌, ◌<◌, ◌∙◌, [], true, ap, sym, subst, length, get_or, arith}
use Rattle.rga_tree.proofs.Interface.{before_row, has_row, before_spot, until, until_some, seen_all-joined}
use Rattle.rga_sequence.specs.Blocks.{seen_all, offset}
use Rattle.rga_sequence.specs.BlockRows.{items_of, has}
use Rattle.rga_sequence.specs.Indexed.{blocks_in, elements_in}
use Rattle.rga_sequence.specs.Sums.{AreSums}
use Rattle.rga_sequence.proofs.Grown.{seen_le}
use Rattle.rga_sequence.proofs.Numbers.{length-items}
use Rattle.rga_sequence.proofs.Spots.{some_spot}
use Rattle.rga_sequence.proofs.blocks.BlocksSequence.visible_before.Goals as goal

pub unwrap-b-requires : goal.unwrap-b-requires
unwrap-b-requires c =
    let row = elements_in c.args.self.now.row in
    let stands : has c.args.id row ≡ true = sym (has_row row c.args.id) ∙ c.requires in
    some_spot c.spot.result c.args.id row c.spot.ensures.absent (omega (arith, until_some c.args.id row stands))

pub count_before-requires-clause-sums : goal.count_before-requires-clause-sums
count_before-requires-clause-sums c =
    subst (λ bs. AreSums c.deref-2.result.now (items_of bs)) (sym c.deref.ensures.value)
    (subst (λ ss. AreSums ss (blocks_in c.args.self.now.row)) (sym c.deref-2.ensures.value) c.args.self.now.indexed.sums)

pub count_before-requires-clause-few : goal.count_before-requires-clause-few
count_before-requires-clause-few c =
    let self = c.args.self.now in
    omega (arith, ap (λ bs. seen_all (items_of bs)) c.deref.ensures.value, seen_all-joined (blocks_in self.row), seen_le (elements_in self.row), self.enough.paid, self.enough.few)

pub returns : goal.returns
returns c =
    let row = elements_in c.args.self.now.row in
    let bs = c.args.self.now.row.blocks in
    let xs = items_of bs.items in
    let b = c.unwrap-b.result.0 in
    let at = c.unwrap-b.result.1 in
    let there : b < length xs = let h = rw c.unwrap-b.ensures at c.spot.ensures.block in omega (arith, h, length-items bs.items, bs.ok) in
    let within : at < length (get_or xs b []) = rw c.unwrap-b.ensures at c.spot.ensures.within in
    let place : offset xs b at ≡ until c.args.id row = rw c.unwrap-b.ensures at c.spot.ensures.place in
    rw c.deref.ensures.value at c.count_before.ensures ∙ before_spot xs b at c.args.id there (omega (arith, within)) place ∙ before_row row c.args.id c.args.self.now.keeps_walk.in_order
