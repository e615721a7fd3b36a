-- The clusters of runs, by the entries.
use Rattle.std.proofs.Common.{◌≡◌, ℕ, ◌+◌, ◌-◌, ◌*◌, ◌^◌, ◌<◌, ◌≤◌, Bool, true, false, cond, List, [], ◌∷◌, ◌++◌, map, refl, sym, ap, subst, ◌∙◌, arith, mul-le-mul_right, zero, suc}
use Rattle.std.proofs.lemmas.List.{map-append}
use Rattle.std.proofs.lemmas.List.Elements.{All-nil, All-cons}
use Rattle.std.specs.List.{All, range_with_len}
use Rattle.std.specs.Prelude.{slice_index_or}
use Rattle.reorder.specs.VisualList.{is_odd}
use Rattle.paragraphs.specs.declared.span.Span.{Span}
use Rattle.cell_grid.specs.declared.cluster_run.ClusterRun.{ClusterRun}
use Rattle.cell_grid.specs.declared.entry.Entry.{Entry}
use Rattle.cell_grid.specs.Rows.{shifted_entry}
use Rattle.cell_grid.specs.Runs.{run_span, byte_count, point_count, span_after, cluster_count, cluster_from_left, run_entry, run_entries, run_columns, runs_entries, shifted_run, IsInReach, MayShiftRun}
use Rattle.cell_grid.specs.Shifting.{StaysInReach, MayShift}
use Rattle.cell_grid.specs.Spans.{shifted_span}
use Rattle.cell_grid.proofs.KeptSpans.{later-kept}
use Rattle.cell_grid.proofs.Numbered.{at-number, All-front, All-back}
use Rattle.cell_grid.proofs.Alone.{entry_by, none-after}
use Rattle.cell_grid.proofs.Standing.{span_of}

-- ---- a cluster within the run

-- where the last cluster is in reach each is
pub reaches : (r : ClusterRun) (number : ℕ) → number ≤ r.span.further → IsInReach r → StaysInReach (number * byte_count (run_span r)) (number * point_count (run_span r)) (run_span r)
reaches r number le reach =
    let bytes = mul-le-mul_right (byte_count (run_span r)) le in
    let points = mul-le-mul_right (point_count (run_span r)) le in
    let a = reach.first_byte in
    let b = reach.end_byte in
    let c = reach.first_place in
    let d = reach.end_place in
    record { first_byte = omega arith; end_byte = omega arith; first_place = omega arith; end_place = omega arith }

-- an entry within the run begins within its columns
pub columns-within : (r : ClusterRun) (number : ℕ) → number ≤ r.span.further → number * r.columns + r.columns ≤ run_columns r
columns-within r number le = let all = mul-le-mul_right r.columns le in omega arith

turned : (b : Bool) (f c : ℕ) → c ≤ f → cond b (f - cond b (f - c) c) (cond b (f - c) c) ≡ c
turned true f c le = omega arith
turned false f c le = refl

turned-below : (b : Bool) (f c : ℕ) → c ≤ f → cond b (f - c) c ≤ f
turned-below true f c le = omega arith
turned-below false f c le = le

pub from_left-within : (r : ClusterRun) (number : ℕ) → number ≤ r.span.further → cluster_from_left r number ≤ r.span.further
from_left-within r number le = turned-below (is_odd r.level) r.span.further number le

module _ (P : Span → Type 0) where
  -- what holds of each entry holds of each cluster
  pub clusters-hold : (column : ℕ) (r : ClusterRun) → All (λ (e : Entry). P e.span) (run_entries column r) → (number : ℕ) → number ≤ r.span.further → P (span_after number (run_span r))
  clusters-hold column r all number le =
      let i = cluster_from_left r number in
      let within = from_left-within r number le in
      let lt : i < cluster_count r = omega arith in
      subst (λ k. P (span_after k (run_span r))) (turned (is_odd r.level) r.span.further number le)
      (at-number (run_entry column r) (cluster_count r) (λ (e : Entry). P e.span) all i lt)

  pub all-clusters : (column : ℕ) (runs : List ClusterRun) → All (λ (e : Entry). P e.span) (runs_entries column runs)
      → All (λ (r : ClusterRun). (number : ℕ) → number ≤ r.span.further → P (span_after number (run_span r))) runs
  all-clusters column [] all = All-nil (λ (r : ClusterRun). (number : ℕ) → number ≤ r.span.further → P (span_after number (run_span r)))
  all-clusters column (r ∷ later) all =
      let Q : Entry → Type 0 = λ e. P e.span in
      All-cons (λ (r : ClusterRun). (number : ℕ) → number ≤ r.span.further → P (span_after number (run_span r))) r later
      (clusters-hold column r (All-front Q (run_entries column r) (runs_entries (column + run_columns r) later) all))
      (all-clusters (column + run_columns r) later (All-back Q (run_entries column r) (runs_entries (column + run_columns r) later) all))

-- ---- runs moved later

pub may-shift-runs : (bytes places column : ℕ) (runs : List ClusterRun) → All (λ (e : Entry). MayShift bytes places e.span) (runs_entries column runs) → All (MayShiftRun bytes places) runs
may-shift-runs bytes places column runs all = λ i d lt.
    let r = slice_index_or runs i d in
    let each = all-clusters (MayShift bytes places) column runs all i d lt in
    record { first = subst (MayShift bytes places) (none-after (run_span r)) (each 0 (omega arith)); last = each r.span.further (omega arith) }

same-size : (first end more : ℕ) → end + more - (first + more) ≡ end - first
same-size first end more = omega arith

step-shifted : (x more n size wide : ℕ) → wide ≡ size → x + more + n * wide ≡ x + n * size + more
step-shifted x more n size wide e = let all = ap (λ m. n * m) e in omega arith

module _ (bytes places : ℕ) where
  module _ (s : Span) (n : ℕ) where
    first_bytes : s.first_byte + bytes + n * byte_count (shifted_span bytes places s) ≡ s.first_byte + n * byte_count s + bytes
    first_bytes = step-shifted s.first_byte bytes n (byte_count s) (byte_count (shifted_span bytes places s)) (same-size s.first_byte s.end_byte bytes)

    end_bytes : s.end_byte + bytes + n * byte_count (shifted_span bytes places s) ≡ s.end_byte + n * byte_count s + bytes
    end_bytes = step-shifted s.end_byte bytes n (byte_count s) (byte_count (shifted_span bytes places s)) (same-size s.first_byte s.end_byte bytes)

    first_places : s.first_place + places + n * point_count (shifted_span bytes places s) ≡ s.first_place + n * point_count s + places
    first_places = step-shifted s.first_place places n (point_count s) (point_count (shifted_span bytes places s)) (same-size s.first_place s.end_place places)

    end_places : s.end_place + places + n * point_count (shifted_span bytes places s) ≡ s.end_place + n * point_count s + places
    end_places = step-shifted s.end_place places n (point_count s) (point_count (shifted_span bytes places s)) (same-size s.first_place s.end_place places)

    after-shifted : span_after n (shifted_span bytes places s) ≡ shifted_span bytes places (span_after n s)
    after-shifted =
        let t = span_after n (shifted_span bytes places s) in
        let u = shifted_span bytes places (span_after n s) in
        ap (λ x. span_of x t.end_byte t.first_place t.end_place) first_bytes
        ∙ ap (λ x. span_of u.first_byte x t.first_place t.end_place) end_bytes
        ∙ ap (λ x. span_of u.first_byte u.end_byte x t.end_place) first_places
        ∙ ap (λ x. span_of u.first_byte u.end_byte u.first_place x) end_places

  pub reach-shifted : (r : ClusterRun) → MayShiftRun bytes places r → IsInReach (shifted_run bytes places r)
  reach-shifted r h =
      let a = h.last.first_byte in
      let b = h.last.end_byte in
      let c = h.last.first_place in
      let d = h.last.end_place in
      subst (λ (s : Span). StaysInReach (r.span.further * byte_count s) (r.span.further * point_count s) s) (sym (later-kept bytes places r.span))
      (record {
        first_byte = subst (λ k. k < 2 ^ 32) (sym (first_bytes (run_span r) r.span.further)) (omega arith);
        end_byte = subst (λ k. k < 2 ^ 32) (sym (end_bytes (run_span r) r.span.further)) (omega arith);
        first_place = subst (λ k. k < 2 ^ 32) (sym (first_places (run_span r) r.span.further)) (omega arith);
        end_place = subst (λ k. k < 2 ^ 32) (sym (end_places (run_span r) r.span.further)) (omega arith);
      })

  entries-shifted : (column : ℕ) (r : ClusterRun) (from n : ℕ) → map (run_entry column (shifted_run bytes places r)) (range_with_len from n) ≡ map (shifted_entry bytes places) (map (run_entry column r) (range_with_len from n))
  entries-shifted column r from zero = refl
  entries-shifted column r from (suc n) =
      let k = cluster_from_left r from in
      ap (λ s. entry_by s (column + from * r.columns) r.level r.columns ∷ map (run_entry column (shifted_run bytes places r)) (range_with_len (from + 1) n))
      (ap (span_after k) (later-kept bytes places r.span) ∙ after-shifted (run_span r) k)
      ∙ ap (λ l. shifted_entry bytes places (run_entry column r from) ∷ l) (entries-shifted column r (from + 1) n)

  pub runs-shifted : (column : ℕ) (runs : List ClusterRun) → runs_entries column (map (shifted_run bytes places) runs) ≡ map (shifted_entry bytes places) (runs_entries column runs)
  runs-shifted column [] = refl
  runs-shifted column (r ∷ later) =
      let f = shifted_entry bytes places in
      ap (λ l. l ++ runs_entries (column + run_columns r) (map (shifted_run bytes places) later)) (entries-shifted column r 0 (cluster_count r))
      ∙ ap (λ l. map f (run_entries column r) ++ l) (runs-shifted (column + run_columns r) later)
      ∙ sym (map-append f (run_entries column r) (runs_entries (column + run_columns r) later))
