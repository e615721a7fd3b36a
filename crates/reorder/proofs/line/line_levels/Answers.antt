-- The firsts of the levels after L1, each group in its turn.
use Rattle.std.proofs.Common.{◌<◌, ◌++◌, refl, length, drop, sym, ap, ◌∙◌, arith, append-nil}
use Rattle.std.proofs.lemmas.List.{drop_all, get_or_default, length-map}
use Rattle.std.specs.Str.{chars}
use Rattle.unicode_tables.specs.Tables.{bidi_of}
use Rattle.reorder.specs.LineLevels.{levels_after_l1, group_firsts}
use Rattle.reorder.proofs.L1.{length-after_points, firsts-on, start-within}
use Rattle.reorder.proofs.line.line_levels.Goals as goal
use Rattle.reorder.proofs.line.line_levels.Goals.{In-loop-size}

pub levels_after_l1-requires : goal.levels_after_l1-requires
levels_after_l1-requires c =
    c.requires.each_code_point ∙ sym (length-map (chars c.args.line.now) (bidi_of c.args.tables.now)) ∙ sym (ap length (c.deref.ensures.value ∙ c.in_ok-classes.ensures))

pub loop-size-init : goal.loop-size-init
loop-size-init c = record {
  start = refl;
  so_far = ap (λ l. l ++ group_firsts c.args.sizes.now c.levels_after_l1.new.after.items) c.in_ok-firsts.ensures.items;
}

-- there is a level where a cluster starts
below : (c : In-loop-size) → c.loop-size.start < length c.levels_after_l1.new.after.items
below c =
    let after = c.levels_after_l1.new.after.items in
    let whole = length-after_points c.args.para_level c.args.tables.now (chars c.args.line.now) c.deref.result.now c.args.levels.now after
    (c.deref.ensures.value ∙ c.in_ok-classes.ensures) c.requires.each_code_point c.in_ok-levels_after_l1.ensures in
    let at = start-within c.args.sizes.now after c.loop-size.size-index c.loop-size.start c.loop-size-test.true _ c.requires.positive c.requires.whole c.loop-size.invariant.start in
    omega (arith, at.0, whole)

pub index-requires : goal.index-requires
index-requires c =
    let at = below (goal.at.index-requires c).In-loop-size in
    omega (arith, at, c.levels_after_l1.new.after.ok.0)

pub loop-size-preserved : goal.loop-size-preserved
loop-size-preserved c =
    let after = c.levels_after_l1.new.after.items in
    let i = c.loop-size.size-index in
    let at = start-within c.args.sizes.now after i c.loop-size.start c.loop-size-test.true _ c.requires.positive c.requires.whole c.loop-size.invariant.start in
    record {
      start = at.1;
      so_far =
          firsts-on c.args.sizes.now after i c.loop-size.start c.loop-size-test.true c.loop-size.firsts.items (group_firsts c.args.sizes.now after)
          _ _ c.loop-size.invariant.so_far
          (c.index.ensures ∙ get_or_default after c.loop-size.start c.index.result.now 0 (below (goal.at.loop-size-preserved c).In-loop-size))
          c.in_ok-push.ensures.items;
    }

pub returns : goal.returns
returns c =
    let after = c.levels_after_l1.new.after.items in
    sym (append-nil c.loop-size.firsts.items)
    ∙ ap (λ l. c.loop-size.firsts.items ++ group_firsts l (drop c.loop-size.start after)) (sym (drop_all c.loop-size.size-index c.args.sizes.now (omega arith)))
    ∙ c.loop-size.invariant.so_far
    ∙ ap (group_firsts c.args.sizes.now)
    (c.in_ok-levels_after_l1.ensures ∙ ap (λ cs. levels_after_l1 c.args.para_level cs c.args.levels.now) (c.deref.ensures.value ∙ c.in_ok-classes.ensures))
