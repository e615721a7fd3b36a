-- The column of a gap is that of the entry right of it, and that of the last gap the row's end.
use Rattle.std.proofs.Common.{◌≡◌, ℕ, suc, ◌+◌, ◌<◌, Bool, List, length, get_or, refl, sym, ap, ◌∙◌, arith}
use Rattle.std.proofs.lemmas.Bool.{le-leb, lt-leb}
use Rattle.std.proofs.lemmas.Iterator.Consumers.{YieldsList-from_first, YieldsList-turn, YieldsList-end}
use Rattle.std.proofs.lemmas.List.{length_push}
use Rattle.std.proofs.lemmas.Option.{slice_get_read}
use Rattle.std.specs.Prelude.{nat_le}
use Rattle.cell_grid.specs.declared.entry.Entry.{Entry}
use Rattle.caret.specs.Gaps.{row_end, gap_column}
use Rattle.caret.proofs.Gone.{column-there, column-past, last-here, last-before}
use Rattle.caret.proofs.gaps.last_gap_by.Goals as goal
use Rattle.caret.proofs.gaps.last_gap_by.Goals.{then-from-column, else-from-column}

pub overflow_add-gap : goal.overflow_add-gap
overflow_add-gap c =
    let row = c.args.row.now in
    let list = YieldsList-from_first (λ x. x) (λ (left : List Entry). left) row.entries (c.into_iter-entry-iterator.ensures.into_iter_gives ∙ c.entries-entry-items.ensures) in
    let turn = YieldsList-turn list c.loop-entry.yielded _ c.loop-entry.yielded_by _ _ c.in-Some.entry c.in-Some.is c.next.ensures.steps in
    let n = c.loop-entry.gap in
    let counted = c.loop-entry.invariant.counted in
    omega (arith, turn.0, counted, c.entry_count-count.ensures.count, c.entry_count-count.ensures.most)

pub loop-entry-preserved : goal.loop-entry-preserved
loop-entry-preserved c =
    let row = c.args.row.now in
    let list = YieldsList-from_first (λ x. x) (λ (left : List Entry). left) row.entries (c.into_iter-entry-iterator.ensures.into_iter_gives ∙ c.entries-entry-items.ensures) in
    let turn = YieldsList-turn list c.loop-entry.yielded _ c.loop-entry.yielded_by _ _ c.in-Some.entry c.in-Some.is c.next.ensures.steps in
    let n = c.loop-entry.gap in
    let counted = c.loop-entry.invariant.counted in
    let lt : n < length row.entries = omega (arith, turn.0, counted) in
    let is : c.in-Some.entry ≡ get_or row.entries n c.in-Some.entry = turn.1 ∙ ap (λ k. get_or row.entries k c.in-Some.entry) (sym counted) in
    let column = column-there row n c.in-Some.entry (slice_get_read row.entries (length row.entries) n c.in-Some.entry refl lt is) in
    let more = length_push c.loop-entry.yielded c.in-Some.entry in
    let f : ℕ → Bool = λ g. nat_le (gap_column row g) c.args.column in
    let so_far = c.loop-entry.invariant.within in
    let next : n + 1 ≡ suc n = omega arith in
    elim c.if-from-column.branch [
      | then-from-column w ↦ record {
        counted = omega (arith, counted, more);
        last = w.last-is ∙ sym (last-here f n (n + 1) next (le-leb (gap_column row n) c.args.column (omega (arith, column, w.if-from-column.true, c.from.ensures))));
        within = omega (arith, w.last-is);
      }
      | else-from-column w ↦ record {
        counted = omega (arith, counted, more);
        last = w.last-is ∙ c.loop-entry.invariant.last ∙ sym (last-before f n (n + 1) next (lt-leb (gap_column row n) c.args.column (omega (arith, column, w.if-from-column.false, c.from.ensures))));
        within = omega (arith, w.last-is, so_far);
      }
    ]

pub returns-then-row_end-column-clause-gap : goal.returns-then-row_end-column-clause-gap
returns-then-row_end-column-clause-gap c =
    let row = c.args.row.now in
    let list = YieldsList-from_first (λ x. x) (λ (left : List Entry). left) row.entries (c.into_iter-entry-iterator.ensures.into_iter_gives ∙ c.entries-entry-items.ensures) in
    let end = YieldsList-end list c.loop-entry.yielded _ c.loop-entry.yielded_by _ _ c.in-None.is c.next.ensures.steps in
    let n = c.loop-entry.gap in
    let all : n ≡ length row.entries = c.loop-entry.invariant.counted ∙ end.1 in
    let f : ℕ → Bool = λ g. nat_le (gap_column row g) c.args.column in
    let column : gap_column row n ≡ row_end row = column-past row n (omega (arith, all)) in
    let next : length row.entries + 1 ≡ suc n = omega (arith, all) in
    sym (last-here f n (length row.entries + 1) next (le-leb (gap_column row n) c.args.column (omega (arith, column, c.row_end.ensures, c.if-row_end-column.true))))

pub returns-else-row_end-column-clause-gap : goal.returns-else-row_end-column-clause-gap
returns-else-row_end-column-clause-gap c =
    let row = c.args.row.now in
    let list = YieldsList-from_first (λ x. x) (λ (left : List Entry). left) row.entries (c.into_iter-entry-iterator.ensures.into_iter_gives ∙ c.entries-entry-items.ensures) in
    let end = YieldsList-end list c.loop-entry.yielded _ c.loop-entry.yielded_by _ _ c.in-None.is c.next.ensures.steps in
    let n = c.loop-entry.gap in
    let all : n ≡ length row.entries = c.loop-entry.invariant.counted ∙ end.1 in
    let f : ℕ → Bool = λ g. nat_le (gap_column row g) c.args.column in
    let column : gap_column row n ≡ row_end row = column-past row n (omega (arith, all)) in
    let next : length row.entries + 1 ≡ suc n = omega (arith, all) in
    c.loop-entry.invariant.last ∙ sym (last-before f n (length row.entries + 1) next (lt-leb (gap_column row n) c.args.column (omega (arith, column, c.row_end.ensures, c.if-row_end-column.false))))
