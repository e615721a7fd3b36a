-- The goals of `hide` that are answered by hand.
use Rattle.std.proofs.Common.{◌∙◌, refl, ap, subst, arith}
use Rattle.std.proofs.lemmas.List.{get_or_read}
use Rattle.std.proofs.lemmas.List.Sums.{sum_by-set, get_or-le-sum_by}
use Rattle.rga_runs.specs.declared.stretch.Stretch.{Stretch}
use Rattle.rga_runs.specs.Changed.{IsHidden}
use Rattle.rga_runs.proofs.Low.{low_set}
use Rattle.rga_runs.proofs.block.Block.hide.Goals as goal
use Rattle.rga_runs.specs.Stretches.{visible_of}

pub overflow_sub-self : goal.overflow_sub-self
overflow_sub-self c =
    let ss = c.args.self.now.stretches.items in
    let is = c.args.self.now.visible_are in
    omega (arith, is, get_or-le-sum_by visible_of ss c.args.j c.index_mut.result.now c.requires.there, ap visible_of c.index_mut.ensures.value, c.hide.ensures.visible)

pub invariant_of-self-clause-counted : goal.invariant_of-self-clause-counted
invariant_of-self-clause-counted c =
    let ss = c.args.self.now.stretches.items in
    let old = c.index_mut.result.now in
    let new = c.hide.new.self in
    let is = c.args.self.now.counted in
    omega (arith, is, sum_by-set (λ (s : Stretch). s.count) ss c.args.j new old c.requires.there, ap (λ (s : Stretch). s.count) c.index_mut.ensures.value, c.hide.ensures.count)

pub invariant_of-self-clause-visible_are : goal.invariant_of-self-clause-visible_are
invariant_of-self-clause-visible_are c =
    let ss = c.args.self.now.stretches.items in
    let old = c.index_mut.result.now in
    let new = c.hide.new.self in
    let is = c.args.self.now.visible_are in
    omega (arith, is, sum_by-set visible_of ss c.args.j new old c.requires.there, ap visible_of c.index_mut.ensures.value, c.hide.ensures.visible)

pub invariant_of-self-clause-low : goal.invariant_of-self-clause-low
invariant_of-self-clause-low c =
    let ss = c.args.self.now.stretches.items in
    let old = c.index_mut.result.now in
    let was = c.args.self.now.low in
    low_set c.args.self.now.least ss c.args.j old c.hide.new.self was c.requires.there (c.hide.ensures.first ∙ ap (λ (s : Stretch). s.first) c.index_mut.ensures.value)

pub returns-clause-items : goal.returns-clause-items
returns-clause-items c = λ d.
    let ss = c.args.self.now.stretches.items in
    let old = c.index_mut.result.now in
    let new = c.hide.new.self in
    let e = c.hide.ensures in
    let is : IsHidden old new c.args.k = record { start = e.start; count = e.count; first = e.first; parent = e.parent; hidden = e.hidden; visible = e.visible } in
    (new, subst (λ (s : Stretch). IsHidden s new c.args.k) (get_or_read ss c.args.j old c.requires.there c.index_mut.ensures.value d) is, refl)
