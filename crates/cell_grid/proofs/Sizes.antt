-- How many bytes a row prints.
use Rattle.std.proofs.Common.{◌≡◌, ◌<◌, ◌≤◌, ◌+◌, ◌-◌, ◌*◌, ◌^◌, ℕ, zero, suc, Ok, Err, List, [], ◌∷◌, ◌++◌, length, take, get_or, replicate, encode_utf8, flat_map, map, ap, ◌∙◌, arith, length-append}
use Rattle.std.proofs.lemmas.List.{length-replicate}
use Rattle.std.proofs.lemmas.List.Concat.{flat_map-cons}
use Rattle.std.proofs.lemmas.Str.{length-encode}
use Rattle.std.specs.Char.{len_utf8}
use Rattle.std.specs.Prelude.{Result, IsErr}
use Rattle.std.specs.List.{range_with_len}
use Rattle.unicode_tables.specs.Tables.{TableValues}
use Rattle.cell_grid.specs.declared.cluster_run.ClusterRun.{ClusterRun}
use Rattle.cell_grid.specs.declared.entry.Entry.{Entry}
use Rattle.cell_grid.specs.declared.cell.Cell.{Cell}
use Rattle.cell_grid.specs.declared.cell.Cell.TheVariants.{Blank}
use Rattle.cell_grid.specs.Cells.{entries_cells}
use Rattle.cell_grid.specs.Rows.{DrawnRow}
use Rattle.cell_grid.specs.Print.{slice_of, own_text, run_slices, cell_text, row_text, IsSizeOf}
use Rattle.cell_grid.specs.Printable.{IsPrintable}
use Rattle.cell_grid.specs.Runs.{run_span, byte_count, span_after, cluster_count, cluster_from_left, run_entry}
use Rattle.cell_grid.proofs.Parts.{length-slice}
use Rattle.cell_grid.proofs.Printing.{row-text}
use Rattle.cell_grid.proofs.Reaching.{from_left-within}
use Rattle.cell_grid.proofs.RunPrinting.{first-slice, ends-next}
use Rattle.cell_grid.proofs.Steps.{flat_map-take_next}
use Rattle.cell_grid.proofs.Writing.{shown, shown-on}

-- blanks, the entries, blanks and the LF
pub row-size : (tables : TableValues) (text : List ℕ) (r : DrawnRow) (left right : ℕ) → r.cells ≡ replicate left Blank ++ (entries_cells 0 r.entries ++ replicate right Blank)
    → length (row_text tables text r) ≡ length (flat_map (own_text tables text) r.entries) + (left + right + 1)
row-size tables text r left right is =
    let own = flat_map (own_text tables text) r.entries in
    let whole = ap (λ (cs : List Cell). flat_map (cell_text tables text r.entries) cs ++ 10 ∷ []) is ∙ row-text tables text r.entries left right in
    let before : List ℕ = replicate left 32 in
    let after : List ℕ = replicate right 32 in
    let all : length (row_text tables text r) ≡ length (before ++ (own ++ (after ++ 10 ∷ []))) = ap length whole in
    let a = length-append before (own ++ (after ++ 10 ∷ [])) in
    let b = length-append own (after ++ 10 ∷ []) in
    let c : length (after ++ 10 ∷ []) ≡ length after + 1 = length-append after (10 ∷ []) in
    let m : length before ≡ left = length-replicate left 32 in
    let n : length after ≡ right = length-replicate right 32 in
    omega arith

-- one piece more
pub pieces-size : {X : Type 0} (f : X → List ℕ) (xs : List X) (i : ℕ) (x d : X) → i < length xs → x ≡ get_or xs i d
    → length (flat_map f (take (i + 1) xs)) ≡ length (flat_map f (take i xs)) + length (f x)
pieces-size f xs i x d within is = ap length (flat_map-take_next f xs i x d within is) ∙ length-append (flat_map f (take i xs)) (f x)

-- one code point more
pub shown-size : (f : ℕ → ℕ) (points : List ℕ) (c : ℕ) → length (shown f (points ++ c ∷ [])) ≡ length (shown f points) + len_utf8 (f c)
shown-size f points c =
    let n = length-encode (f c) in
    let more = ap length (shown-on f points c) ∙ length-append (shown f points) (encode_utf8 (f c)) in
    omega arith

-- a print that is too long has no size
pub too-long : {E : Type 0} (print : List ℕ) (answer : Result ℕ E) → IsErr answer → 2 ^ 64 ≤ length print → IsSizeOf print answer
too-long print (Ok size) err long = cc
too-long print (Err fault) err long = long

-- ---- the clusters of a run as they stand in the text

one-size : (first end before : ℕ) → first ≤ end → end + before - (first + before) ≡ end - first
one-size first end before le = omega arith

none-size : (size : ℕ) → 0 ≡ 0 * size
none-size size = omega arith

next-size : (n size : ℕ) → size + n * size ≡ suc n * size
next-size n size = omega arith

module _ (text : List ℕ) (r : ClusterRun) (h : IsPrintable text r) where
  slice-size : (k : ℕ) → k ≤ r.span.further → length (slice_of text (run_entry 0 r k).span) ≡ byte_count (run_span r)
  slice-size k le =
      let number = cluster_from_left r k in
      let here = h.slices number (from_left-within r k le) in
      length-slice text (span_after number (run_span r)).first_byte (span_after number (run_span r)).end_byte here.order here.end.0
      ∙ one-size (run_span r).first_byte (run_span r).end_byte (number * byte_count (run_span r)) (first-slice text r h).order

  each-size : (from n : ℕ) → from + n ≤ cluster_count r → length (flat_map (λ (e : Entry). slice_of text e.span) (map (run_entry 0 r) (range_with_len from n))) ≡ n * byte_count (run_span r)
  each-size from zero le = none-size (byte_count (run_span r))
  each-size from (suc n) le =
      let f : Entry → List ℕ = λ e. slice_of text e.span in
      let later = map (run_entry 0 r) (range_with_len (from + 1) n) in
      ap length (flat_map-cons f (run_entry 0 r from) later) ∙ length-append (f (run_entry 0 r from)) (flat_map f later)
      ∙ ap (λ k. k + length (flat_map f later)) (slice-size from (omega arith))
      ∙ ap (λ k. byte_count (run_span r) + k) (each-size (from + 1) n (omega arith))
      ∙ next-size n (byte_count (run_span r))

  -- they have the bytes from where the first begins up to where the last ends
  pub slices-size : length (run_slices text r) + (run_span r).first_byte ≡ (span_after r.span.further (run_span r)).end_byte
  slices-size =
      let all = each-size 0 (cluster_count r) (omega arith) in
      let ends = ends-next text r h r.span.further in
      omega arith
