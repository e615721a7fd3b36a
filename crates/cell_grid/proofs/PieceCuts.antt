-- Runs cut into pieces: by the levels of their clusters, and where columns hang.
use Rattle.std.proofs.Common.{◌≡◌, ℕ, zero, suc, ◌+◌, ◌-◌, ◌*◌, ◌/◌, ◌<◌, ◌≤◌, List, [], ◌∷◌, ◌++◌, length, map, take, drop, get_or, replicate, sum, flat_map, refl, sym, ap, subst, ◌∙◌, arith, append_assoc, append-nil, inl, inr}
use Rattle.std.proofs.Math.Nat.{div-mul-le_self}
use Rattle.std.proofs.lemmas.Bool.Decides.{leb_tells}
use Rattle.std.proofs.lemmas.Nat.{le-div}
use Rattle.std.proofs.lemmas.List.{drop-drop, get_or-drop, length-drop, length-replicate}
use Rattle.std.proofs.lemmas.List.Concat.{flat_map-append, flat_map-cons}
use Rattle.std.proofs.lemmas.List.Elements.{All-nil, All-cons, All-head, All-tail, All-push, All-same}
use Rattle.std.proofs.lemmas.List.Folds.{sum_by-replicate}
use Rattle.std.proofs.lemmas.List.Sums.{sum_by-cons, sum_by-append}
use Rattle.std.specs.List.{All, range_with_len}
use Rattle.reorder.specs.LineLevels.{group_firsts}
use Rattle.paragraphs.specs.declared.span.Span.{Span}
use Rattle.line_break.specs.declared.run.ShapeRun.{ShapeRun}
use Rattle.line_break.specs.Runs.{span_in, sizes_of}
use Rattle.line_break.specs.Runs.{spans_of as shape_spans, columns_of as shape_columns}
use Rattle.cell_grid.specs.declared.cluster_run.ClusterRun.{ClusterRun}
use Rattle.cell_grid.specs.declared.kept_span.KeptSpan.{KeptSpan}
use Rattle.cell_grid.specs.declared.piece.Fitting.{Fitting}
use Rattle.cell_grid.specs.Cuts.{AreFitting, IsFirstPiece}
use Rattle.cell_grid.specs.Hanging.{hung}
use Rattle.cell_grid.specs.KeptSpans.{span_kept}
use Rattle.cell_grid.specs.Parts.{front, behind, all_spans, all_sizes, all_columns, IsWithin, ArePassed}
use Rattle.cell_grid.specs.Pieces.{run_spans, run_levels, run_widths, spans_of, levels_of, columns_of}
use Rattle.cell_grid.specs.Runs.{byte_count, point_count, span_after, cluster_count, run_columns, runs_columns, IsInReach}
use Rattle.cell_grid.specs.Shifting.{StaysInReach}
use Rattle.cell_grid.proofs.Cutting.{spans-cut, sizes-cut, columns-cut, behind-within, length-spans_of, taken, dropped, one-less}
use Rattle.cell_grid.proofs.Hung.{hung-full}
use Rattle.cell_grid.proofs.Numbered.{map-range-same}
use Rattle.cell_grid.proofs.Sides.{hung-append}
use Rattle.cell_grid.proofs.Standing.{span_of}

-- ---- columns

sum-alike : (n columns : ℕ) → sum (replicate n columns) ≡ n * columns
sum-alike n columns = sum_by-replicate (λ (k : ℕ). k) n columns

-- those that fit have their own
hung-fit : (room n columns : ℕ) (later : List ℕ) → n * columns ≤ room → hung room (replicate n columns ++ later) ≡ replicate n columns ++ hung (room - n * columns) later
hung-fit room n columns later le =
    let all = sum-alike n columns in
    hung-append room (replicate n columns) later (omega arith) ∙ ap (λ k. replicate n columns ++ hung (room - k) later) all

-- where the first doesn't fit none has any
hung-zero : (n columns : ℕ) (later : List ℕ) → 0 < columns → hung 0 (replicate n columns ++ later) ≡ replicate n 0 ++ hung 0 later
hung-zero zero columns later some = refl
hung-zero (suc n) columns later some = hung-full 0 columns (replicate n columns ++ later) some ∙ ap (λ l. 0 ∷ l) (hung-zero n columns later some)

hung-out : (room n columns : ℕ) (later : List ℕ) → room < columns → 0 < n → hung room (replicate n columns ++ later) ≡ replicate n 0 ++ hung 0 later
hung-out room zero columns later out some = absurd (omega arith)
hung-out room (suc n) columns later out some =
    hung-full room columns (replicate n columns ++ later) out ∙ ap (λ l. 0 ∷ l) (hung-zero n columns later (omega arith))

pub fitting-own : (count columns room n left : ℕ) → 0 < n → n ≤ count → n * columns ≤ room → left ≡ room - n * columns
    → AreFitting count columns room (record { count = n; columns = columns; room = left })
fitting-own count columns room n left some most fits is = record {
  some = some;
  most = most;
  hung = λ later. hung-fit room n columns later fits ∙ ap (λ k. replicate n columns ++ hung k later) (sym is);
}

pub fitting-none : (count columns room : ℕ) → 0 < count → room < columns → AreFitting count columns room (record { count = count; columns = 0; room = 0 })
fitting-none count columns room some out = record {
  some = some;
  most = omega arith;
  hung = λ later. hung-out room count columns later out some;
}

-- as many as fit
room-for : (n columns room : ℕ) → n ≤ room / columns → n * columns ≤ room
room-for n columns room le =
    let all = div-mul-le_self room columns in
    let c : room / columns ≡ n + (room / columns - n) = omega arith in
    let both = ap (λ k. k * columns) c in
    omega arith

some-wide : (count columns room : ℕ) → room < count * columns → 0 < columns
some-wide count zero room over = let none : count * 0 ≡ 0 = omega arith in absurd (omega arith)
some-wide count (suc columns) room over = omega arith

few-for : (n count columns room : ℕ) → n * columns ≤ room → room < count * columns → n ≤ count
few-for n count columns room within over = elim (leb_tells n count) [
  | inl le ↦ le.1
  | inr gt ↦
      let more = gt.1 in
      let e : n ≡ count + (n - count) = omega arith in
      let both = ap (λ k. k * columns) e in
      absurd (omega arith)
]

-- where not all fit
pub fitting-some : (count columns room n left : ℕ) → room < count * columns → columns ≤ room → n ≡ room / columns → left ≡ room - n * columns
    → AreFitting count columns room (record { count = n; columns = columns; room = left })
fitting-some count columns room n left over fits is l =
    let some : 0 < columns = some-wide count columns room over in
    let one : 1 ≤ room / columns = le-div 1 room columns some (omega arith) in
    let within = room-for n columns room (omega arith) in
    fitting-own count columns room n left (omega arith) (few-for n count columns room within over) within l

-- ---- levels

firsts-append : (xs ys levels : List ℕ) → group_firsts (xs ++ ys) levels ≡ group_firsts xs levels ++ group_firsts ys (drop (sum xs) levels)
firsts-append [] ys levels = refl
firsts-append (x ∷ xs) ys levels =
    let all = sum_by-cons (λ (k : ℕ). k) x xs in
    ap (λ l. get_or levels 0 0 ∷ l)
    (firsts-append xs ys (drop x levels)
    ∙ ap (λ l. group_firsts xs (drop x levels) ++ group_firsts ys l) (drop-drop (sum xs) x levels ∙ ap (λ n. drop n levels) (sym all)))

firsts-alike : (n points level : ℕ) (levels : List ℕ) → ((k : ℕ) → k < n → get_or levels (k * points) 0 ≡ level) → group_firsts (replicate n points) levels ≡ replicate n level
firsts-alike zero points level levels same = refl
firsts-alike (suc n) points level levels same =
    let none : 0 * points ≡ 0 = omega arith in
    ap (λ x. x ∷ group_firsts (replicate n points) (drop points levels)) (ap (λ i. get_or levels i 0) (sym none) ∙ same 0 (omega arith))
    ∙ ap (λ l. level ∷ l)
    (firsts-alike n points level (drop points levels)
    (λ k lt.
    let e : points + k * points ≡ (k + 1) * points = omega arith in
    get_or-drop points levels (k * points) 0 ∙ ap (λ i. get_or levels i 0) e ∙ same (k + 1) (omega arith)))

-- ---- one piece

span-alike : (part : ShapeRun) (k : ℕ)
    → span_in part k ≡ span_after k (span_of part.first_byte (part.first_byte + part.bytes) part.first_place (part.first_place + part.points))
span-alike part k =
    let b : part.bytes ≡ part.first_byte + part.bytes - part.first_byte = omega arith in
    let p : part.points ≡ part.first_place + part.points - part.first_place = omega arith in
    let eb = ap (λ n. k * n) b in
    let ep = ap (λ n. k * n) p in
    let bytes = part.first_byte + part.bytes - part.first_byte in
    let points = part.first_place + part.points - part.first_place in
    let e1 : part.first_byte + k * part.bytes ≡ part.first_byte + k * (part.first_byte + part.bytes - part.first_byte) = omega arith in
    let e2 : part.first_byte + k * part.bytes + part.bytes ≡ part.first_byte + part.bytes + k * (part.first_byte + part.bytes - part.first_byte) = omega arith in
    let e3 : part.first_place + k * part.points ≡ part.first_place + k * (part.first_place + part.points - part.first_place) = omega arith in
    let e4 : part.first_place + k * part.points + part.points ≡ part.first_place + part.points + k * (part.first_place + part.points - part.first_place) = omega arith in
    ap (λ n. span_of n (part.first_byte + k * part.bytes + part.bytes) (part.first_place + k * part.points) (part.first_place + k * part.points + part.points)) e1
    ∙ ap (λ n. span_of (part.first_byte + k * (part.first_byte + part.bytes - part.first_byte)) n (part.first_place + k * part.points) (part.first_place + k * part.points + part.points)) e2
    ∙ ap (λ n. span_of (part.first_byte + k * (part.first_byte + part.bytes - part.first_byte)) (part.first_byte + part.bytes + k * (part.first_byte + part.bytes - part.first_byte)) n (part.first_place + k * part.points + part.points)) e3
    ∙ ap (λ n. span_of (part.first_byte + k * (part.first_byte + part.bytes - part.first_byte)) (part.first_byte + part.bytes + k * (part.first_byte + part.bytes - part.first_byte)) (part.first_place + k * (part.first_place + part.points - part.first_place)) n) e4

-- where the first cluster stands
abbrev pub first_of : ShapeRun → Span
first_of part = span_of part.first_byte (part.first_byte + part.bytes) part.first_place (part.first_place + part.points)

abbrev pub piece_of : KeptSpan → (level columns : ℕ) → ClusterRun
piece_of s level columns = record { span = s; level = level; columns = columns }

pub reach-one : (first size further count : ℕ) → further + 1 ≤ count → first + count * size ≤ 4_000_000 → first + size + further * size ≤ 4_000_000
reach-one first size further count le within =
    let c : count ≡ further + 1 + (count - (further + 1)) = omega arith in
    let all = ap (λ k. k * size) c in
    omega arith

module _ (run : ShapeRun) (levels : List ℕ) (room : ℕ) (within : IsWithin run) (level most alike : ℕ) (f : Fitting)
    (few : alike ≤ most) (most_within : most ≤ run.count) (fit : AreFitting alike run.columns room f)
    (same : (k : ℕ) → k < alike → get_or levels (k * run.points) 0 ≡ level)
    (s : KeptSpan) (at : span_kept s ≡ first_of run) (so : s.further + 1 ≡ f.count) where
  n-most : s.further + 1 ≤ most
  n-most = let m = fit.most in omega arith

  piece-levels : (later : List ℕ) → group_firsts (replicate (s.further + 1) run.points ++ later) levels ≡ replicate (s.further + 1) level ++ group_firsts later (drop ((s.further + 1) * run.points) levels)
  piece-levels later =
      let m = fit.most in
      firsts-append (replicate (s.further + 1) run.points) later levels
      ∙ ap (λ l. l ++ group_firsts later (drop (sum (replicate (s.further + 1) run.points)) levels))
      (firsts-alike (s.further + 1) run.points level levels (λ k lt. same k (omega arith)))
      ∙ ap (λ k. replicate (s.further + 1) level ++ group_firsts later (drop k levels)) (sum-alike (s.further + 1) run.points)

  piece-columns : (later : List ℕ) → hung room (replicate (s.further + 1) run.columns ++ later) ≡ replicate (s.further + 1) f.columns ++ hung f.room later
  piece-columns later =
      ap (λ n. hung room (replicate n run.columns ++ later)) so ∙ fit.hung later ∙ ap (λ n. replicate n f.columns ++ hung f.room later) (sym so)

  piece-reach : IsInReach (piece_of s level f.columns)
  piece-reach =
      let m = n-most in
      let b : run.first_byte + run.bytes - run.first_byte ≡ run.bytes = omega arith in
      let p : run.first_place + run.points - run.first_place ≡ run.points = omega arith in
      let eb = ap (λ k. s.further * k) b in
      let ep = ap (λ k. s.further * k) p in
      let wb = reach-one run.first_byte run.bytes s.further run.count (omega arith) within.bytes in
      let wp = reach-one run.first_place run.points s.further run.count (omega arith) within.places in
      subst (λ (t : Span). StaysInReach (s.further * byte_count t) (s.further * point_count t) t) (sym at)
      (record { first_byte = omega arith; end_byte = omega arith; first_place = omega arith; end_place = omega arith })

  pub first-piece : IsFirstPiece run most levels room (piece_of s level f.columns) f.room
  first-piece = record {
    within = n-most;
    spans =
        ap (λ t. map (λ k. span_after k t) (range_with_len 0 (s.further + 1))) at
        ∙ sym (map-range-same (span_in run) (λ k. span_after k (first_of run)) 0 (s.further + 1) (λ k low high. span-alike run k));
    levels_alike = piece-levels;
    columns = piece-columns;
    reach = piece-reach;
  }

-- ---- one piece after the other

-- pieces so far, and the clusters that are left of a line, are the line's: so many are left, before which these runs, these levels and so much room stand
pub record AreCutTo (line : List ShapeRun) (count : ℕ) (levels : List ℕ) (width : ℕ) (pieces : List ClusterRun) (left : ℕ) (runs : List ShapeRun) (ahead : List ℕ) (room : ℕ) : Type 0 where
  pub within : All IsWithin runs
  pub enough : left ≤ length (all_spans runs)
  pub long : sum (take left (all_sizes runs)) ≡ length ahead
  pub spans : spans_of pieces ++ take left (all_spans runs) ≡ take count (all_spans line)
  pub levels_alike : levels_of pieces ++ group_firsts (take left (all_sizes runs)) ahead ≡ group_firsts (take count (all_sizes line)) levels
  pub columns : columns_of pieces ++ hung room (take left (all_columns runs)) ≡ hung width (take count (all_columns line))
  pub later_spans : drop left (all_spans runs) ≡ drop count (all_spans line)
  pub later_sizes : drop left (all_sizes runs) ≡ drop count (all_sizes line)
  pub later_columns : drop left (all_columns runs) ≡ drop count (all_columns line)
  pub reach : All IsInReach pieces

pub cut-start : (line : List ShapeRun) (count : ℕ) (levels : List ℕ) (width : ℕ) (pieces : List ClusterRun) → pieces ≡ [] → All IsWithin line → count ≤ length (all_spans line)
    → sum (take count (all_sizes line)) ≡ length levels → AreCutTo line count levels width pieces count line levels width
cut-start line count levels width pieces none within enough long = record {
  within = within;
  enough = enough;
  long = long;
  spans = ap (λ l. spans_of l ++ take count (all_spans line)) none;
  levels_alike = ap (λ l. levels_of l ++ group_firsts (take count (all_sizes line)) levels) none;
  columns = ap (λ l. columns_of l ++ hung width (take count (all_columns line))) none;
  later_spans = refl;
  later_sizes = refl;
  later_columns = refl;
  reach = All-same IsInReach pieces [] none (All-nil IsInReach);
}

flat-push : {X Y : Type 0} (f : X → List Y) (xs : List X) (x : X) (later : List Y) → flat_map f (xs ++ x ∷ []) ++ later ≡ flat_map f xs ++ (f x ++ later)
flat-push f xs x later =
    ap (λ l. l ++ later) (flat_map-append f xs (x ∷ []) ∙ ap (λ l. flat_map f xs ++ l) (flat_map-cons f x [] ∙ append-nil (f x)))
    ∙ append_assoc (flat_map f xs) (f x) later

module _ (line : List ShapeRun) (count : ℕ) (levels : List ℕ) (width : ℕ) (pieces : List ClusterRun) (left : ℕ) (ahead : List ℕ) (room : ℕ) where
  -- the next run is begun
  pub cut-begun : (before runs : List ShapeRun) → ArePassed 0 before runs → All IsWithin runs → AreCutTo line count levels width pieces left before ahead room
      → AreCutTo line count levels width pieces left runs ahead room
  cut-begun before runs p within h =
      let n : length (all_spans runs) ≡ length (all_spans before) = ap length p.spans in
      let had = h.enough in
      record {
        within = within;
        enough = omega arith;
        long = ap (λ l. sum (take left l)) p.sizes ∙ h.long;
        spans = ap (λ l. spans_of pieces ++ take left l) p.spans ∙ h.spans;
        levels_alike = ap (λ l. levels_of pieces ++ group_firsts (take left l) ahead) p.sizes ∙ h.levels_alike;
        columns = ap (λ l. columns_of pieces ++ hung room (take left l)) p.columns ∙ h.columns;
        later_spans = ap (drop left) p.spans ∙ h.later_spans;
        later_sizes = ap (drop left) p.sizes ∙ h.later_sizes;
        later_columns = ap (drop left) p.columns ∙ h.later_columns;
        reach = h.reach;
      }

  -- nothing is left
  pub cut-passed : (runs : List ShapeRun) → left ≡ 0 → AreCutTo line count levels width pieces left runs ahead room → ArePassed count line runs
  cut-passed runs none h = record {
    spans = ap (λ n. drop n (all_spans runs)) (sym none) ∙ h.later_spans;
    sizes = ap (λ n. drop n (all_sizes runs)) (sym none) ∙ h.later_sizes;
    columns = ap (λ n. drop n (all_columns runs)) (sym none) ∙ h.later_columns;
  }

  pub cut-spans : (runs : List ShapeRun) → left ≡ 0 → AreCutTo line count levels width pieces left runs ahead room → spans_of pieces ≡ take count (all_spans line)
  cut-spans runs none h = sym (append-nil (spans_of pieces)) ∙ ap (λ n. spans_of pieces ++ take n (all_spans runs)) (sym none) ∙ h.spans

  pub cut-levels : (runs : List ShapeRun) → left ≡ 0 → AreCutTo line count levels width pieces left runs ahead room → levels_of pieces ≡ group_firsts (take count (all_sizes line)) levels
  cut-levels runs none h = sym (append-nil (levels_of pieces)) ∙ ap (λ n. levels_of pieces ++ group_firsts (take n (all_sizes runs)) ahead) (sym none) ∙ h.levels_alike

  pub cut-columns : (runs : List ShapeRun) → left ≡ 0 → AreCutTo line count levels width pieces left runs ahead room → columns_of pieces ≡ hung width (take count (all_columns line))
  cut-columns runs none h = sym (append-nil (columns_of pieces)) ∙ ap (λ n. columns_of pieces ++ hung room (take n (all_columns runs))) (sym none) ∙ h.columns

  module _ (run : ShapeRun) (later : List ShapeRun) (h : AreCutTo line count levels width pieces left (run ∷ later) ahead room) where
    -- the levels go on as far as some of the run's clusters, and then as far as the line
    pub level-each : (n : ℕ) → n ≤ run.count → n ≤ left → n * run.points + sum (take (left - n) (all_sizes (behind n run ∷ later))) ≡ length ahead
    level-each n le few =
        ap (λ k. k + sum (take (left - n) (all_sizes (behind n run ∷ later)))) (sym (sum-alike n run.points))
        ∙ sym (sum_by-append (λ (k : ℕ). k) (replicate n run.points) (take (left - n) (all_sizes (behind n run ∷ later))))
        ∙ ap sum (taken sizes_of n left run later few (sizes-cut n run le) (length-replicate n run.points)) ∙ h.long

    -- one piece more
    module _ (piece : ClusterRun) (most next : ℕ) (more : List ClusterRun) (first : IsFirstPiece run most ahead room piece next) (most_run : most ≤ run.count) (most_left : most ≤ left)
        (put : more ≡ pieces ++ piece ∷ []) where
      n-run : cluster_count piece ≤ run.count
      n-run = let m = first.within in omega arith

      n-left : cluster_count piece ≤ left
      n-left = let m = first.within in omega arith

      part-spans : run_spans piece ++ take (left - cluster_count piece) (all_spans (behind (cluster_count piece) run ∷ later)) ≡ take left (all_spans (run ∷ later))
      part-spans =
          ap (λ l. l ++ take (left - cluster_count piece) (all_spans (behind (cluster_count piece) run ∷ later))) first.spans
          ∙ taken shape_spans (cluster_count piece) left run later n-left (spans-cut (cluster_count piece) run n-run) (length-spans_of (front (cluster_count piece) run))

      part-levels : run_levels piece ++ group_firsts (take (left - cluster_count piece) (all_sizes (behind (cluster_count piece) run ∷ later))) (drop (cluster_count piece * run.points) ahead) ≡ group_firsts (take left (all_sizes (run ∷ later))) ahead
      part-levels =
          sym (first.levels_alike (take (left - cluster_count piece) (all_sizes (behind (cluster_count piece) run ∷ later))))
          ∙ ap (λ l. group_firsts l ahead) (taken sizes_of (cluster_count piece) left run later n-left (sizes-cut (cluster_count piece) run n-run) (length-replicate (cluster_count piece) run.points))

      part-columns : run_widths piece ++ hung next (take (left - cluster_count piece) (all_columns (behind (cluster_count piece) run ∷ later))) ≡ hung room (take left (all_columns (run ∷ later)))
      part-columns =
          sym (first.columns (take (left - cluster_count piece) (all_columns (behind (cluster_count piece) run ∷ later))))
          ∙ ap (hung room) (taken shape_columns (cluster_count piece) left run later n-left (columns-cut (cluster_count piece) run n-run) (length-replicate (cluster_count piece) run.columns))

      cut-on : AreCutTo line count levels width more (left - cluster_count piece) (behind (cluster_count piece) run ∷ later) (drop (cluster_count piece * run.points) ahead) next
      cut-on =
          let had = h.enough in
          let fewer = one-less shape_spans (cluster_count piece) left run later n-left (spans-cut (cluster_count piece) run n-run) (length-spans_of (front (cluster_count piece) run)) in
          let each = level-each (cluster_count piece) n-run n-left in
          let gone = length-drop (cluster_count piece * run.points) ahead in
          record {
            within = All-cons IsWithin (behind (cluster_count piece) run) later (behind-within (cluster_count piece) run n-run (All-head IsWithin run later h.within)) (All-tail IsWithin run later h.within);
            enough = omega arith;
            long = omega arith;
            spans = ap (λ l. spans_of l ++ take (left - cluster_count piece) (all_spans (behind (cluster_count piece) run ∷ later))) put
                ∙ flat-push run_spans pieces piece (take (left - cluster_count piece) (all_spans (behind (cluster_count piece) run ∷ later)))
                ∙ ap (λ l. spans_of pieces ++ l) part-spans ∙ h.spans;
            levels_alike = ap (λ l. levels_of l ++ group_firsts (take (left - cluster_count piece) (all_sizes (behind (cluster_count piece) run ∷ later))) (drop (cluster_count piece * run.points) ahead)) put
                ∙ flat-push run_levels pieces piece (group_firsts (take (left - cluster_count piece) (all_sizes (behind (cluster_count piece) run ∷ later))) (drop (cluster_count piece * run.points) ahead))
                ∙ ap (λ l. levels_of pieces ++ l) part-levels ∙ h.levels_alike;
            columns = ap (λ l. columns_of l ++ hung next (take (left - cluster_count piece) (all_columns (behind (cluster_count piece) run ∷ later)))) put
                ∙ flat-push run_widths pieces piece (hung next (take (left - cluster_count piece) (all_columns (behind (cluster_count piece) run ∷ later))))
                ∙ ap (λ l. columns_of pieces ++ l) part-columns ∙ h.columns;
            later_spans = dropped shape_spans (cluster_count piece) left run later n-left (spans-cut (cluster_count piece) run n-run) (length-spans_of (front (cluster_count piece) run)) ∙ h.later_spans;
            later_sizes = dropped sizes_of (cluster_count piece) left run later n-left (sizes-cut (cluster_count piece) run n-run) (length-replicate (cluster_count piece) run.points) ∙ h.later_sizes;
            later_columns = dropped shape_columns (cluster_count piece) left run later n-left (columns-cut (cluster_count piece) run n-run) (length-replicate (cluster_count piece) run.columns) ∙ h.later_columns;
            reach = All-same IsInReach more (pieces ++ piece ∷ []) put (All-push IsInReach pieces piece h.reach first.reach);
          }

      pub cut-next : (number fewer : ℕ) (after : ShapeRun) (further : List ℕ) → number ≡ cluster_count piece → fewer ≡ left - number → after ≡ behind number run → further ≡ drop (number * run.points) ahead
          → AreCutTo line count levels width more fewer (after ∷ later) further next
      cut-next number fewer after further is left_is run_is ahead_is =
          subst (λ (k : ℕ). AreCutTo line count levels width more k (after ∷ later) further next) (sym (left_is ∙ ap (λ k. left - k) is))
          (subst (λ (r : ShapeRun). AreCutTo line count levels width more (left - cluster_count piece) (r ∷ later) further next) (sym (run_is ∙ ap (λ k. behind k run) is))
          (subst (λ (l : List ℕ). AreCutTo line count levels width more (left - cluster_count piece) (behind (cluster_count piece) run ∷ later) l next)
          (sym (ahead_is ∙ ap (λ k. drop (k * run.points) ahead) is)) cut-on))

-- ---- the columns of pieces

pub sum-columns : (pieces : List ClusterRun) → sum (columns_of pieces) ≡ runs_columns pieces
sum-columns [] = refl
sum-columns (r ∷ pieces) =
    ap sum (flat_map-cons run_widths r pieces) ∙ sum_by-append (λ (k : ℕ). k) (run_widths r) (columns_of pieces)
    ∙ ap (λ n. n + sum (columns_of pieces)) (sum-alike (cluster_count r) r.columns)
    ∙ ap (λ n. run_columns r + n) (sum-columns pieces) ∙ sym (sum_by-cons run_columns r pieces)
