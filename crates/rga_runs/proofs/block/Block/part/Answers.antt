-- The goals of `part` that are answered by hand.
use Rattle.std.proofs.Common.{◌+◌, ◌∙◌, not, get_or, refl, ap, subst, arith}
use Rattle.std.specs.Prelude.{set}
use Rattle.std.specs.Ordering.{is_lt}
use Rattle.std.proofs.lemmas.List.{get_or_read}
use Rattle.std.proofs.lemmas.List.Sums.{sum_by-insert, sum_by-set}
use Rattle.bg_types.specs.Identifier.{id_cmp}
use Rattle.rga_runs.specs.declared.stretch.Stretch.{Stretch}
use Rattle.rga_runs.specs.Changed.{IsParted}
use Rattle.rga_runs.specs.Typed.{later}
use Rattle.rga_runs.specs.Stretches.{count_in, visible_in, visible_of}
use Rattle.rga_runs.specs.Blocks.{none_below}
use Rattle.rga_runs.proofs.Low.{low_set, low_insert, low_at, later_above}
use Rattle.rga_runs.proofs.block.Block.part.Goals as goal

pub invariant_of-self-clause-counted : goal.invariant_of-self-clause-counted
invariant_of-self-clause-counted c =
    let ss = c.args.self.now.stretches.items in
    let j = c.args.j in
    let old = c.index_mut.result.now in
    let low = c.part-rest.new.self in
    let e = c.part-rest.ensures in
    let is = c.args.self.now.counted in
    omega (
      arith,
      is,
      ap count_in c.put_in.ensures.items,
      sum_by-insert (λ (s : Stretch). s.count) (set ss j low) (j + 1) c.part-rest.result,
      sum_by-set (λ (s : Stretch). s.count) ss j low old c.requires.there,
      ap (λ (s : Stretch). s.count) c.index_mut.ensures.value,
      e.count,
      e.rest_count,
    )

pub invariant_of-self-clause-visible_are : goal.invariant_of-self-clause-visible_are
invariant_of-self-clause-visible_are c =
    let ss = c.args.self.now.stretches.items in
    let j = c.args.j in
    let old = c.index_mut.result.now in
    let low = c.part-rest.new.self in
    let is = c.args.self.now.visible_are in
    omega (
      arith,
      is,
      ap visible_in c.put_in.ensures.items,
      sum_by-insert visible_of (set ss j low) (j + 1) c.part-rest.result,
      sum_by-set visible_of ss j low old c.requires.there,
      ap visible_of c.index_mut.ensures.value,
      c.part-rest.ensures.visible,
    )

pub invariant_of-self-clause-low : goal.invariant_of-self-clause-low
invariant_of-self-clause-low c =
    let ss = c.args.self.now.stretches.items in
    let j = c.args.j in
    let m = c.args.self.now.least in
    let old = c.index_mut.result.now in
    let low = c.part-rest.new.self in
    let e = c.part-rest.ensures in
    let same = c.index_mut.ensures.value in
    let was = c.args.self.now.low in
    let above = low_at m ss j old was c.requires.there in
    ap (none_below m) c.put_in.ensures.items
    ∙ low_insert m (set ss j low) (j + 1) c.part-rest.result (low_set m ss j old low was c.requires.there (e.first ∙ ap (λ (s : Stretch). s.first) same))
    (ap (λ q. not (is_lt (id_cmp q m))) (e.rest_first ∙ ap (λ (s : Stretch). later s.first c.args.k) same) ∙ later_above m (get_or ss j old).first c.args.k above)

pub returns-clause-items : goal.returns-clause-items
returns-clause-items c = λ d.
    let ss = c.args.self.now.stretches.items in
    let j = c.args.j in
    let old = c.index_mut.result.now in
    let low = c.part-rest.new.self in
    let rest = c.part-rest.result in
    let e = c.part-rest.ensures in
    let is : IsParted old low rest c.args.k = record {
      elements = e.elements;
      rest_elements = e.rest;
      count = e.count;
      rest_count = e.rest_count;
      first = e.first;
      rest_first = e.rest_first;
      start = e.start;
      rest_start = e.rest_start;
      visible = e.visible;
    } in
    (low, rest, subst (λ (s : Stretch). IsParted s low rest c.args.k) (get_or_read ss j old c.requires.there c.index_mut.ensures.value d) is, refl, c.put_in.ensures.items)
