-- The goals of `insert` that are answered by hand.
use Rattle.std.proofs.Common.{◌≡◌, ◌∙◌, true, not, cond, sym, ap, subst, arith}
use Rattle.std.specs.Prelude.{insert}
use Rattle.std.specs.Ordering.{is_lt}
use Rattle.std.proofs.lemmas.List.Sums.{sum_by-insert}
use Rattle.bg_types.specs.Identifier.{id_cmp}
use Rattle.rga_runs.specs.declared.stretch.Stretch.{Stretch}
use Rattle.rga_runs.specs.Stretches.{count_in, visible_in, visible_of}
use Rattle.rga_runs.specs.Blocks.{none_below}
use Rattle.rga_runs.proofs.Low.{low_insert, low_lesser}
use Rattle.rga_runs.proofs.Sums.{few_counted, few_visible, visible_le}
use Rattle.rga_runs.proofs.block.Block.insert.Goals as goal

pub overflow_add-self : goal.overflow_add-self
overflow_add-self c = let is = c.args.self.now.counted in omega (arith, is, few_counted c.args.self.now.stretches.items, c.requires.room)

pub overflow_add-self-2 : goal.overflow_add-self-2
overflow_add-self-2 c =
    let is = c.args.self.now.visible_are in
    omega (arith, is, few_visible c.args.self.now.stretches.items, c.requires.room, c.visible.ensures, visible_le c.lone-new.result)

pub invariant_of-self-clause-counted : goal.invariant_of-self-clause-counted
invariant_of-self-clause-counted c =
    let ss = c.args.self.now.stretches.items in
    let new = c.lone-new.result in
    let items : c.put_in.new.list.items ≡ insert ss c.args.j new = c.put_in.ensures.items in
    let is = c.args.self.now.counted in
    omega (arith, is, ap count_in items, sum_by-insert (λ (s : Stretch). s.count) ss c.args.j new, c.lone-new.ensures.count)

pub invariant_of-self-clause-visible_are : goal.invariant_of-self-clause-visible_are
invariant_of-self-clause-visible_are c =
    let ss = c.args.self.now.stretches.items in
    let new = c.lone-new.result in
    let items : c.put_in.new.list.items ≡ insert ss c.args.j new = c.put_in.ensures.items in
    let is = c.args.self.now.visible_are in
    omega (arith, is, ap visible_in items, sum_by-insert visible_of ss c.args.j new, c.visible.ensures)

pub invariant_of-self-clause-low : goal.invariant_of-self-clause-low
invariant_of-self-clause-low c =
    let ss = c.args.self.now.stretches.items in
    let new = c.lone-new.result in
    let items : c.put_in.new.list.items ≡ insert ss c.args.j new = c.put_in.ensures.items in
    let was = c.args.self.now.low in
    let low = low_lesser c.args.self.now.least c.args.id ss was in
    let m = cond (is_lt (id_cmp c.args.id c.args.self.now.least)) c.args.id c.args.self.now.least in
    let first = sym c.lone-new.ensures.first in
    (λ i. none_below (c.lesser-self.ensures i) (items i))
    ∙ low_insert m ss c.args.j new low.0 (subst (λ q. not (is_lt (id_cmp q m)) ≡ true) first low.1)

pub returns-clause-items : goal.returns-clause-items
returns-clause-items c =
    let ss = c.args.self.now.stretches.items in
    let new = c.lone-new.result in
    let items : c.put_in.new.list.items ≡ insert ss c.args.j new = c.put_in.ensures.items in
    let e = c.lone-new.ensures in
    (new, record { start_is = e.start; count = e.count; first = e.first; parent_is = e.parent; hidden_is = e.hidden }, items)
