-- Stored spans, moved later.
use Rattle.std.proofs.Common.{◌≡◌, ◌≤◌, ◌+◌, ◌*◌, ◌%◌, ◌<◌, ℕ, ap, ◌∙◌, arith}
use Rattle.cell_grid.specs.KeptSpans.{number_of, high_of, span_kept, kept_later}
use Rattle.cell_grid.specs.Shifting.{MayShift}
use Rattle.cell_grid.specs.Spans.{shifted_span}
use Rattle.cell_grid.specs.declared.kept_span.KeptSpan.{KeptSpan}
use Rattle.cell_grid.proofs.Alone.{span-is}

-- what is put apart comes together again
pub put-together : (number share : ℕ) → share < 4 → number_of (number % 65_536) (high_of number share) ≡ number
put-together number share few = omega arith

pub share-stays : (number share : ℕ) → share < 4 → high_of number share % 4 ≡ share
share-stays number share few = omega arith

-- the sizes stay as they are
pub later-kept : (bytes places : ℕ) (s : KeptSpan) → span_kept (kept_later bytes places s) ≡ shifted_span bytes places (span_kept s)
unfolding span_kept
later-kept bytes places s =
    let byte = number_of s.byte s.byte_high + bytes in
    let place = number_of s.place s.place_high + places in
    let from = put-together byte (s.byte_high % 4) (omega arith) in
    let to = put-together place (s.place_high % 4) (omega arith) in
    let first = share-stays byte (s.byte_high % 4) (omega arith) in
    let second = share-stays place (s.place_high % 4) (omega arith) in
    span-is _ _ _ _ (shifted_span bytes places (span_kept s)) from (omega (arith, from)) to (omega (arith, to, first, second))

-- it ends no sooner than it begins
pub kept-order : (s : KeptSpan) → (span_kept s).first_byte ≤ (span_kept s).end_byte
unfolding span_kept
kept-order s = omega arith

-- so many spans of one size, and one more
pub sizes-end : (further count first end size bytes : ℕ) → count ≡ further + 1 → bytes ≡ size → end ≡ first + size → first + count * bytes ≡ end + further * size
sizes-end further count first end size bytes c b e =
    let same : count * bytes ≡ (further + 1) * size = ap (λ n. n * bytes) c ∙ ap (λ n. (further + 1) * n) b in
    let all : first + (further + 1) * size ≡ end + further * size = omega arith in
    ap (λ n. first + n) same ∙ all

pub record Begins (bytes places : ℕ) (s : KeptSpan) : Type 0 where
  pub byte : number_of s.byte s.byte_high + bytes ≤ 4_000_000
  pub place : number_of s.place s.place_high + places ≤ 4_000_000

pub begins : (bytes places : ℕ) (s : KeptSpan) → MayShift bytes places (span_kept s) → Begins bytes places s
unfolding span_kept
begins bytes places s h = record { byte = h.first_byte; place = h.first_place }
