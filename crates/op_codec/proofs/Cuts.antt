-- A header or a frame that a piece cut: how far it is kept, and how the next piece completes it.
use Rattle.std.proofs.Common.{false, ◌≡◌, ℕ, ◌+◌, ◌-◌, ◌<◌, ◌≤◌, List, [], ◌++◌, length, take, drop, Option, Some, None, sym, ap, ◌∙◌, append_assoc, arith, inl, inr}
use Rattle.std.specs.Prelude.{min}
use Rattle.std.proofs.Math.Seq.{drop-append_seam, drop-append-add, take-append_seam}
use Rattle.std.proofs.lemmas.Bool.{cases_lt}
use Rattle.std.proofs.lemmas.List.{take_all, drop_all, length-append, length-take, length-drop, take-append-drop, take-append-le, drop-append-le}
use Rattle.op_codec.specs.declared.fault.Cause.{Cause}
use Rattle.op_codec.specs.declared.fault.Cause.TheVariants.{Truncated}
use Rattle.op_codec.specs.declared.position.Version.{Version}
use Rattle.op_codec.specs.declared.position.Position.{Position}
use Rattle.op_codec.specs.Spelling.{Frame, header, frame_bytes, joins, most_insertions}
use Rattle.op_codec.specs.Frames.{IsFrame}
use Rattle.op_codec.specs.Fault.{header_cause, cause_at}
use Rattle.op_codec.specs.Feed.{IsStopped, TakesFrame}
use Rattle.op_codec.proofs.Faultless.{header_cause-header, cause_at-frame}
use Rattle.op_codec.proofs.Settled.{Settles, missing, settled, header_settles, cause_settles}

-- a beginning that shows a cause is kept, and is all the bytes if it shows only a missing one
stopped : (cause_of : List ℕ → Option Cause) (most : ℕ) (bytes kept more : List ℕ) (cause : Cause) → Settles cause_of most kept [] → cause_of kept ≡ Some cause → bytes ≡ kept ++ more
    → (length kept < most → more ≡ []) → IsStopped bytes kept (cause_of kept)
stopped cause_of most bytes kept more cause (missing e few) shown begins all = record { cause = cause; more = more; is_shown = shown; begins = begins; all = λ _. all few }
stopped cause_of most bytes kept more cause (settled e never) shown begins all =
    record { cause = cause; more = more; is_shown = shown; begins = begins; all = λ t. absurd (never (shown ∙ ap Some t)) }

-- ---- what is kept of bytes where no frame begins

cause_kept : (cause_of : List ℕ → Option Cause) (most : ℕ) (kept more : List ℕ) (cause : Cause) → Settles cause_of most kept more → cause_of (kept ++ more) ≡ Some cause → (shown : Cause) × (cause_of kept ≡ Some shown)
cause_kept cause_of most kept more cause (missing e few) shown = (Truncated, e)
cause_kept cause_of most kept more cause (settled e never) shown = (cause, sym e ∙ shown)

pub rest_kept : (at : Position) (rest kept : List ℕ) (n : ℕ) (cause : Cause) → n ≡ min (length rest) 4111 → kept ≡ take n rest → cause_at at.version at.tip rest ≡ Some cause
    → IsStopped rest kept (cause_at at.version at.tip kept)
rest_kept at rest kept n cause n_is kept_is shown =
    let cause_of = cause_at at.version at.tip in
    let begins : rest ≡ kept ++ drop n rest = sym (take-append-drop n rest) ∙ ap (λ (s : List ℕ). s ++ drop n rest) (sym kept_is) in
    let there = cause_kept cause_of 4111 kept (drop n rest) cause (cause_settles at.version at.tip kept (drop n rest)) (ap cause_of (sym begins) ∙ shown) in
    let size : length kept ≡ n = ap (λ (s : List ℕ). length s) kept_is ∙ omega (arith, length-take n rest, n_is) in
    stopped cause_of 4111 rest kept (drop n rest) there.0 (cause_settles at.version at.tip kept []) there.1 begins (λ few. drop_all n rest (omega (arith, few, size, n_is)))

-- ---- what is kept where a piece completes nothing

piece_kept : (cause_of : List ℕ → Option Cause) (most : ℕ) → ((xs : List ℕ) → Settles cause_of most xs []) → (old piece kept : List ℕ) (n : ℕ) (cause : Cause)
    → n ≡ min (length piece) (most - length old) → kept ≡ old ++ take n piece → cause_of kept ≡ Some cause → IsStopped (old ++ piece) kept (cause_of kept)
piece_kept cause_of most settles old piece kept n cause n_is kept_is shown =
    let begins : old ++ piece ≡ kept ++ drop n piece =
    ap (λ (s : List ℕ). old ++ s) (sym (take-append-drop n piece)) ∙ sym (append_assoc old (take n piece) (drop n piece)) ∙ ap (λ (s : List ℕ). s ++ drop n piece) (sym kept_is) in
    let size : length kept ≡ length old + n = ap (λ (s : List ℕ). length s) kept_is ∙ omega (arith, length-append old (take n piece), length-take n piece, n_is) in
    stopped cause_of most (old ++ piece) kept (drop n piece) cause (settles kept) shown begins (λ few. drop_all n piece (omega (arith, few, size, n_is)))

pub header_kept : (old piece kept : List ℕ) (n : ℕ) (cause : Cause) → n ≡ min (length piece) (5 - length old) → kept ≡ old ++ take n piece → header_cause kept ≡ Some cause
    → IsStopped (old ++ piece) kept (header_cause kept)
header_kept = piece_kept header_cause 5 (λ xs. header_settles xs [])

pub frame_kept : (at : Position) (old piece kept : List ℕ) (n : ℕ) (cause : Cause) → n ≡ min (length piece) (4111 - length old) → kept ≡ old ++ take n piece → cause_at at.version at.tip kept ≡ Some cause
    → IsStopped (old ++ piece) kept (cause_at at.version at.tip kept)
frame_kept at = piece_kept (cause_at at.version at.tip) 4111 (λ xs. cause_settles at.version at.tip xs [])

-- ---- a frame that a piece completes

-- what lacks a byte is shorter than the frame that it begins
cut_shorter : (at : Position) (old t after : List ℕ) (f : Frame) → IsFrame (most_insertions at.version) f → joins at.tip f.first ≡ false → cause_at at.version at.tip old ≡ Some Truncated → old ++ t ≡ frame_bytes f ++ after
    → length old < length (frame_bytes f)
cut_shorter at old t after f is free cut e = elim (cases_lt (length old) (length (frame_bytes f))) [
  | inl lt ↦ lt
  | inr le ↦
      let size = length (frame_bytes f) in
      let front : take size old ≡ frame_bytes f = sym (take-append-le size old t le) ∙ ap (λ (s : List ℕ). take size s) e ∙ take-append_seam (frame_bytes f) after in
      let whole : old ≡ frame_bytes f ++ drop size old = sym (take-append-drop size old) ∙ ap (λ (s : List ℕ). s ++ drop size old) front in
      let none : cause_at at.version at.tip old ≡ None = ap (cause_at at.version at.tip) whole ∙ cause_at-frame at.version at.tip f (drop size old) is free in
      absurd (let clash = sym cut ∙ none in cc)
]

pub frame_completed : (at : Position) (old piece kept after : List ℕ) (f : Frame) (n : ℕ) → n ≡ min (length piece) (4111 - length old) → kept ≡ old ++ take n piece → TakesFrame at kept f after
    → cause_at at.version at.tip old ≡ Some Truncated → TakesFrame at (old ++ piece) f (take (length piece - (n - length after)) (drop (n - length after) piece))
frame_completed at old piece kept after f n n_is kept_is takes cut =
    let t = take n piece in
    let used = n - length after in
    let bytes = frame_bytes f in
    let e : old ++ t ≡ bytes ++ after = sym kept_is ∙ takes.begins.spelled in
    let taken : length t ≡ n = omega (arith, length-take n piece, n_is) in
    let shorter = cut_shorter at old t after f takes.begins.is_frame takes.alone cut e in
    let sizes : length old + length t ≡ length bytes + length after =
    sym (length-append old t) ∙ ap (λ (s : List ℕ). length s) e ∙ length-append bytes after in
    let size : length bytes ≡ length old + used = omega (arith, sizes, taken, shorter) in
    let tail : after ≡ drop used t =
    sym (drop-append_seam bytes after) ∙ ap (λ (s : List ℕ). drop (length bytes) s) (sym e) ∙ ap (λ (k : ℕ). drop k (old ++ t)) size ∙ drop-append-add old t used in
    let within : used ≤ length t = omega (arith, taken) in
    let behind : after ++ drop n piece ≡ drop used piece =
    ap (λ (s : List ℕ). s ++ drop n piece) tail ∙ sym (drop-append-le used t (drop n piece) within) ∙ ap (λ (s : List ℕ). drop used s) (take-append-drop n piece) in
    let all : take (length piece - used) (drop used piece) ≡ drop used piece = take_all (length piece - used) (drop used piece) (omega (arith, length-drop used piece)) in
    record {
      begins = record {
        spelled =
            ap (λ (s : List ℕ). old ++ s) (sym (take-append-drop n piece)) ∙ sym (append_assoc old t (drop n piece)) ∙ ap (λ (s : List ℕ). s ++ drop n piece) e ∙ append_assoc bytes after (drop n piece)
            ∙ ap (λ (s : List ℕ). bytes ++ s) (behind ∙ sym all);
        is_frame = takes.begins.is_frame;
      };
      alone = takes.alone;
    }

-- what follows the frame is of the piece
pub frame_within : (at : Position) (old piece kept after : List ℕ) (f : Frame) (n : ℕ) → n ≡ min (length piece) (4111 - length old) → kept ≡ old ++ take n piece → TakesFrame at kept f after
    → cause_at at.version at.tip old ≡ Some Truncated → length after ≤ n
frame_within at old piece kept after f n n_is kept_is takes cut =
    let t = take n piece in
    let e : old ++ t ≡ frame_bytes f ++ after = sym kept_is ∙ takes.begins.spelled in
    let shorter = cut_shorter at old t after f takes.begins.is_frame takes.alone cut e in
    let sizes : length old + length t ≡ length (frame_bytes f) + length after = sym (length-append old t) ∙ ap (λ (s : List ℕ). length s) e ∙ length-append (frame_bytes f) after in
    omega (arith, sizes, shorter, length-take n piece, n_is)

-- ---- a header that a piece completes

-- a piece completes a header: it stands in front of all the bytes
header_whole : (version : Version) (old piece kept after : List ℕ) (n : ℕ) → kept ≡ old ++ take n piece → kept ≡ header version ++ after → old ++ piece ≡ header version ++ (after ++ drop n piece)
header_whole version old piece kept after n kept_is read =
    ap (λ (s : List ℕ). old ++ s) (sym (take-append-drop n piece)) ∙ sym (append_assoc old (take n piece) (drop n piece)) ∙ ap (λ (s : List ℕ). s ++ drop n piece) (sym kept_is ∙ read)
    ∙ append_assoc (header version) after (drop n piece)

pub header_completed : (version : Version) (old piece kept after : List ℕ) (n : ℕ) → kept ≡ old ++ take n piece → kept ≡ header version ++ after → header_cause (old ++ piece) ≡ None
header_completed version old piece kept after n kept_is read = ap header_cause (header_whole version old piece kept after n kept_is read) ∙ header_cause-header version (after ++ drop n piece)

-- what lacks a byte is shorter than a header
pub cut_header : (old : List ℕ) → header_cause old ≡ Some Truncated → length old < 5
cut_header old cut = elim (header_settles old []) [
  | missing e few ↦ few
  | settled e never ↦ absurd (never cut)
]

-- what follows the header is of the piece
pub header_read : (version : Version) (old piece kept after : List ℕ) (n : ℕ) → n ≡ min (length piece) (5 - length old) → header_cause old ≡ Some Truncated → kept ≡ old ++ take n piece → kept ≡ header version ++ after
    → old ++ piece ≡ header version ++ take (length piece - n) (drop n piece)
header_read version old piece kept after n n_is cut kept_is read =
    let few = cut_header old cut in
    let sizes : length old + length (take n piece) ≡ length (header version) + length after =
    sym (length-append old (take n piece)) ∙ ap (λ (s : List ℕ). length s) (sym kept_is ∙ read) ∙ length-append (header version) after in
    let none : [] ≡ after = take_all 0 after (omega (arith, few, sizes, length-take n piece, n_is)) in
    let rest = take_all (length piece - n) (drop n piece) (omega (arith, length-drop n piece)) in
    header_whole version old piece kept after n kept_is read ∙ (λ i. header version ++ (sym none i ++ sym rest i))
