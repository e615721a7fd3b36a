-- At an even level the bytes as they are, else one code point at a time.
use Rattle.std.proofs.Common.{ℕ, length, map-id, ap, sym, ◌∙◌, arith}
use Rattle.std.proofs.lemmas.Iterator.{YieldsList-from_chars}
use Rattle.std.proofs.lemmas.Iterator.Consumers.{YieldsList-turn, YieldsList-end}
use Rattle.std.proofs.lemmas.List.{length_push}
use Rattle.std.proofs.lemmas.Str.{len_utf8_bounds}
use Rattle.std.specs.Str.Iter.{chars_rest}
use Rattle.std.specs.Char.{len_utf8}
use Rattle.paragraphs.proofs.Splitting.{length-code_points}
use Rattle.reorder.specs.Mirrored.{mirrored_of}
use Rattle.cell_grid.proofs.Sizes.{shown-size}
use Rattle.cell_grid.proofs.Writing.{even-text, shown}
use Rattle.cell_grid.proofs.print_size.mirrored_size.Goals as goal

pub returns-then-level-eq0-clause-size : goal.returns-then-level-eq0-clause-size
returns-then-level-eq0-clause-size c = sym (ap length (even-text c.args.tables.now c.args.level c.args.cluster.now c.if-level-eq0.true c.utf8.cluster))

pub overflow_add-size : goal.overflow_add-size
overflow_add-size c =
    let list = YieldsList-from_chars c.args.cluster.now c.utf8.cluster (ap chars_rest c.into_iter-c-iterator.ensures.into_iter_gives ∙ c.chars-c-items.ensures.rest) in
    let turn = YieldsList-turn list c.loop-c.yielded _ c.loop-c.yielded_by _ _ c.in-Some.c c.in-Some.is c.next.ensures.steps in
    let points = length-code_points c.args.cluster.now c.utf8.cluster in
    let one = len_utf8_bounds c.mirrored.result in
    omega (arith, turn.0, points, one, c.loop-c.invariant.most, c.requires, c.len_utf8-size.ensures)

pub loop-c-preserved : goal.loop-c-preserved
loop-c-preserved c =
    let f : ℕ → ℕ = λ x. mirrored_of c.args.tables.now x c.args.level in
    let more = length_push c.loop-c.yielded c.in-Some.c in
    let one = len_utf8_bounds c.mirrored.result in
    record {
      counted = omega (arith, c.loop-c.invariant.counted, shown-size f c.loop-c.yielded c.in-Some.c, c.len_utf8-size.ensures, ap len_utf8 c.mirrored.ensures);
      most = omega (arith, c.loop-c.invariant.most, more, one, c.len_utf8-size.ensures);
    }

pub returns-clause-size : goal.returns-clause-size
returns-clause-size c =
    let f : ℕ → ℕ = λ x. mirrored_of c.args.tables.now x c.args.level in
    let list = YieldsList-from_chars c.args.cluster.now c.utf8.cluster (ap chars_rest c.into_iter-c-iterator.ensures.into_iter_gives ∙ c.chars-c-items.ensures.rest) in
    let end = YieldsList-end list c.loop-c.yielded _ c.loop-c.yielded_by _ _ c.in-None.is c.next.ensures.steps in
    c.loop-c.invariant.counted ∙ ap (λ l. length (shown f l)) (sym (map-id c.loop-c.yielded) ∙ end.0)

pub returns-clause-most : goal.returns-clause-most
returns-clause-most c =
    let list = YieldsList-from_chars c.args.cluster.now c.utf8.cluster (ap chars_rest c.into_iter-c-iterator.ensures.into_iter_gives ∙ c.chars-c-items.ensures.rest) in
    let end = YieldsList-end list c.loop-c.yielded _ c.loop-c.yielded_by _ _ c.in-None.is c.next.ensures.steps in
    let points = length-code_points c.args.cluster.now c.utf8.cluster in
    omega (arith, end.1, points, c.loop-c.invariant.most, c.requires)
