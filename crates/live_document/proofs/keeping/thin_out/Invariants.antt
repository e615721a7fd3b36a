-- What is kept is what was, or less.
use Rattle.std.proofs.Common.{◌≡◌, ℕ, true, ◌<◌, ◌≤◌, slice_range}
use Rattle.std.specs.List.{All}
use Rattle.bg_types.specs.declared.class.Base.{Base}
use Rattle.unicode_tables.specs.Tables.{TableValues}
use Rattle.text_buffer.specs.Buffers.{paragraphs_in}
use Rattle.live_document.specs.Keeping.{flags, is_kept, weight_held, IsLaid}
use Rattle.live_document.proofs.keeping.thin_out.Given as goal

abbrev pub invariant-loop-step : goal.invariant-loop-step
invariant-loop-step l = record {
  paragraphs : paragraphs_in l.buffer ≡ paragraphs_in l.fn.buffer;
  laid : (tables : TableValues) (width : ℕ) (base : Base) → All (IsLaid tables width base) l.fn.buffer → All (IsLaid tables width base) l.buffer;
  inside : (k : ℕ) → l.fn.from ≤ k → k < l.fn.to → is_kept (flags l.buffer) k ≡ is_kept (flags l.fn.buffer) k;
  no_more : (k : ℕ) → is_kept (flags l.buffer) k ≡ true → is_kept (flags l.fn.buffer) k ≡ true;
  within : weight_held (slice_range l.buffer l.fn.from l.fn.to) ≤ weight_held (slice_range l.fn.buffer l.fn.from l.fn.to);
  less : weight_held l.buffer ≤ weight_held l.fn.buffer;
}

abbrev pub decreases-loop-step : goal.decreases-loop-step
decreases-loop-step l = l.step
