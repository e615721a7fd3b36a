-- The goals of `grow` that are answered by hand.
use Rattle.std.proofs.Common.{◌∙◌, refl, ap, subst, arith}
use Rattle.std.proofs.lemmas.List.{get_or_read}
use Rattle.std.proofs.lemmas.List.Sums.{sum_by-set}
use Rattle.rga_runs.specs.declared.stretch.Stretch.{Stretch}
use Rattle.rga_runs.specs.Changed.{IsGrown}
use Rattle.rga_runs.proofs.Low.{low_set}
use Rattle.rga_runs.proofs.Sums.{few_counted, few_visible}
use Rattle.rga_runs.proofs.block.Block.grow.Goals as goal
use Rattle.rga_runs.specs.Stretches.{visible_of}

pub overflow_add-self : goal.overflow_add-self
overflow_add-self c = let is = c.args.self.now.counted in let few = c.args.self.now.few in omega (arith, is, few_counted c.args.self.now.stretches.items, few, c.args.self.now.stretches.ok, c.requires.few c.index_mut.result.now)

pub overflow_add-self-2 : goal.overflow_add-self-2
overflow_add-self-2 c = let is = c.args.self.now.visible_are in let few = c.args.self.now.few in omega (arith, is, few_visible c.args.self.now.stretches.items, few, c.args.self.now.stretches.ok, c.requires.few c.index_mut.result.now)

pub invariant_of-self-clause-counted : goal.invariant_of-self-clause-counted
invariant_of-self-clause-counted c =
    let ss = c.args.self.now.stretches.items in
    let old = c.index_mut.result.now in
    let new = c.grow.new.self in
    let is = c.args.self.now.counted in
    omega (arith, is, sum_by-set (λ (s : Stretch). s.count) ss c.args.j new old c.requires.there, ap (λ (s : Stretch). s.count) c.index_mut.ensures.value, c.grow.ensures.count)

pub invariant_of-self-clause-visible_are : goal.invariant_of-self-clause-visible_are
invariant_of-self-clause-visible_are c =
    let ss = c.args.self.now.stretches.items in
    let old = c.index_mut.result.now in
    let new = c.grow.new.self in
    let is = c.args.self.now.visible_are in
    omega (arith, is, sum_by-set visible_of ss c.args.j new old c.requires.there, ap visible_of c.index_mut.ensures.value, c.grow.ensures.visible)

pub invariant_of-self-clause-low : goal.invariant_of-self-clause-low
invariant_of-self-clause-low c =
    let ss = c.args.self.now.stretches.items in
    let old = c.index_mut.result.now in
    let was = c.args.self.now.low in
    low_set c.args.self.now.least ss c.args.j old c.grow.new.self was c.requires.there (c.grow.ensures.first ∙ ap (λ (s : Stretch). s.first) c.index_mut.ensures.value)

pub returns-clause-items : goal.returns-clause-items
returns-clause-items c = λ d.
    let ss = c.args.self.now.stretches.items in
    let old = c.index_mut.result.now in
    let new = c.grow.new.self in
    let e = c.grow.ensures in
    let is : IsGrown old new c.args.more = record { start = e.start; count = e.count; first = e.first; parent = e.parent; hidden = e.hidden; visible = e.visible } in
    (new, subst (λ (s : Stretch). IsGrown s new c.args.more) (get_or_read ss c.args.j old c.requires.there c.index_mut.ensures.value d) is, refl)
