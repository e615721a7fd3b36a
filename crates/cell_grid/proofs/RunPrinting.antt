-- What a run prints.
use Rattle.std.proofs.Common.{◌≡◌, ℕ, zero, suc, ◌+◌, ◌-◌, ◌*◌, ◌^◌, ◌<◌, ◌≤◌, ◌%◌, ◌==◌, Bool, true, false, cond, ◌||◌, true≢false, Option, Some, None, List, [], ◌∷◌, ◌++◌, map, length, take, drop, get_or, slice_range, flat_map, refl, sym, ap, subst, ◌∙◌, arith, append-nil, mul-le-mul_right}
use Rattle.std.proofs.lemmas.Bool.{or_parts, ne_eqb}
use Rattle.std.proofs.lemmas.List.Concat.{flat_map-append, flat_map-cons}
use Rattle.std.proofs.lemmas.List.Folds.{list_any-append}
use Rattle.std.proofs.lemmas.List.FromFn.{length-map-range_with_len, get_or-map-range_with_len, map-range_with_len_more}
use Rattle.std.proofs.lemmas.List.Sums.{get_or-le-sum_by}
use Rattle.std.proofs.lemmas.Str.{IsUtf8-between, chars-append, encodes-chars}
use Rattle.std.specs.List.{All, list_any, range_with_len}
use Rattle.std.specs.Prelude.{encode_utf8_all, is_some, unwrap_or}
use Rattle.std.specs.Str.{IsUtf8, IsCharBoundary}
use Rattle.unicode_tables.specs.Tables.{TableValues, mirror_of}
use Rattle.paragraphs.specs.Text.{code_points}
use Rattle.reorder.specs.Mirrored.{mirrored_of}
use Rattle.reorder.specs.VisualList.{is_odd}
use Rattle.cell_grid.specs.declared.cluster_run.ClusterRun.{ClusterRun}
use Rattle.cell_grid.specs.declared.entry.Entry.{Entry}
use Rattle.cell_grid.specs.Print.{separates_segments, begins_with_tab, mirrored_text, slice_of, entry_text, text_over, own_text, run_slices, run_text}
use Rattle.cell_grid.specs.Printable.{IsSlice, IsPrintable}
use Rattle.cell_grid.specs.Runs.{run_span, byte_count, span_after, cluster_count, cluster_from_left, run_entry, run_entries, run_columns, runs_columns, runs_entries, IsInReach}
use Rattle.cell_grid.proofs.Alone.{none-after}
use Rattle.cell_grid.proofs.Printing.{own-slice}
use Rattle.cell_grid.proofs.Reaching.{all-clusters, from_left-within}
use Rattle.cell_grid.proofs.Steps.{slice-parts}
use Rattle.cell_grid.proofs.Writing.{even-text}

-- ---- runs, and their entries

-- runs whose entries are slices of a text can be printed
pub printable-runs : (text : List ℕ) (start : ℕ) (runs : List ClusterRun) (es : List Entry) → runs_entries start runs ≡ es → All (λ (e : Entry). IsSlice text e.span) es
    → All IsInReach runs → runs_columns runs < 2 ^ 16 → All (IsPrintable text) runs
printable-runs text start runs es is slices reach wide = λ i d lt.
    let here = get_or-le-sum_by run_columns runs i d lt in
    record {
      reach = reach i d lt;
      columns = omega arith;
      slices = all-clusters (IsSlice text) start runs (subst (All (λ (e : Entry). IsSlice text e.span)) (sym is) slices) i d lt;
    }

module _ (tables : TableValues) (text : List ℕ) where
  -- in whichever column it begins
  range-text : (column : ℕ) (r : ClusterRun) (from n : ℕ) → flat_map (own_text tables text) (map (run_entry column r) (range_with_len from n)) ≡ flat_map (own_text tables text) (map (run_entry 0 r) (range_with_len from n))
  range-text column r from zero = refl
  range-text column r from (suc n) =
      let f = own_text tables text in
      flat_map-cons f (run_entry column r from) (map (run_entry column r) (range_with_len (from + 1) n))
      ∙ ap (λ t. f (run_entry 0 r from) ++ t) (range-text column r (from + 1) n)
      ∙ sym (flat_map-cons f (run_entry 0 r from) (map (run_entry 0 r) (range_with_len (from + 1) n)))

  -- runs print what their entries do
  pub runs-text : (column : ℕ) (runs : List ClusterRun) → flat_map (own_text tables text) (runs_entries column runs) ≡ flat_map (run_text tables text) runs
  runs-text column [] = refl
  runs-text column (r ∷ later) =
      let f = own_text tables text in
      flat_map-append f (run_entries column r) (runs_entries (column + run_columns r) later)
      ∙ ap (λ t. t ++ flat_map f (runs_entries (column + run_columns r) later)) (range-text column r 0 (cluster_count r))
      ∙ ap (λ t. run_text tables text r ++ t) (runs-text (column + run_columns r) later)
      ∙ sym (flat_map-cons (run_text tables text) r later)

  -- a run without columns prints nothing
  pub none-text : (r : ClusterRun) → r.columns ≡ 0 → (from n : ℕ) → flat_map (own_text tables text) (map (run_entry 0 r) (range_with_len from n)) ≡ []
  none-text r none from zero = refl
  none-text r none from (suc n) =
      let f = own_text tables text in
      let e = run_entry 0 r from in
      let later = map (run_entry 0 r) (range_with_len (from + 1) n) in
      flat_map-cons f e later
      ∙ ap (λ t. t ++ flat_map f later) (ap (λ k. text_over k (entry_text tables text (Some e))) none)
      ∙ none-text r none (from + 1) n

-- ---- an entry of a run by its number

module _ (text : List ℕ) (r : ClusterRun) where
  pub entry-within : (number : ℕ) → number < cluster_count r → number < length (run_entries 0 r)
  entry-within number lt = let len = length-map-range_with_len (run_entry 0 r) 0 (cluster_count r) in omega arith

  pub entry-read : (number : ℕ) (e d : Entry) → number < cluster_count r → e ≡ run_entry 0 r number → e ≡ get_or (run_entries 0 r) number d
  entry-read number e d lt is = is ∙ sym (get_or-map-range_with_len (run_entry 0 r) 0 (cluster_count r) number number d lt (omega arith))

  pub entry-slice : IsPrintable text r → (number : ℕ) (e : Entry) → number ≤ r.span.further → e ≡ run_entry 0 r number → IsSlice text e.span
  entry-slice h number e le is =
      subst (λ (x : Entry). IsSlice text x.span) (sym is) (h.slices (cluster_from_left r number) (from_left-within r number le))

-- ---- where a run stands in its text

end-next : (k first end size : ℕ) → end ≡ first + size → end + k * size ≡ first + (k + 1) * size
end-next k first end size e = omega arith

none-upto : (x m : ℕ) → x + 0 * m - x ≡ 0
none-upto x m = omega arith

one-upto : (x k m : ℕ) → x + k * m ≤ x + (k + 1) * m
one-upto x k m = omega arith

some-upto : (x k m : ℕ) → x ≤ x + k * m
some-upto x k m = omega arith

module _ (text : List ℕ) (r : ClusterRun) (h : IsPrintable text r) where
  pub first-slice : IsSlice text (run_span r)
  first-slice = subst (IsSlice text) (none-after (run_span r)) (h.slices 0 (omega arith))

  pub last-slice : IsSlice text (span_after r.span.further (run_span r))
  last-slice = h.slices r.span.further (omega arith)

  -- a cluster ends where the next one begins
  pub ends-next : (k : ℕ) → (run_span r).end_byte + k * byte_count (run_span r) ≡ (run_span r).first_byte + (k + 1) * byte_count (run_span r)
  ends-next k =
      let order = first-slice.order in
      let size : (run_span r).end_byte ≡ (run_span r).first_byte + byte_count (run_span r) = omega arith in
      end-next k (run_span r).first_byte (run_span r).end_byte (byte_count (run_span r)) size

  pub run-order : (run_span r).first_byte ≤ (span_after r.span.further (run_span r)).end_byte
  run-order = let order = first-slice.order in omega arith

-- ---- the clusters of a run of an even level

module _ (text : List ℕ) (r : ClusterRun) (h : IsPrintable text r) (even : r.level % 2 ≡ 0) where
  not-odd : is_odd r.level ≡ false
  not-odd = ne_eqb (r.level % 2) 1 (λ one. let two = even in absurd (omega arith))

  -- each stands where it does in the text
  cluster-slice : (k : ℕ) → slice_of text (run_entry 0 r k).span ≡ slice_range text ((run_span r).first_byte + k * byte_count (run_span r)) ((run_span r).first_byte + (k + 1) * byte_count (run_span r))
  cluster-slice k =
      ap (λ b. slice_of text (span_after (cond b (r.span.further - k) k) (run_span r))) not-odd
      ∙ ap (slice_range text ((run_span r).first_byte + k * byte_count (run_span r))) (ends-next text r h k)

  slices-upto : (n : ℕ)
      → flat_map (λ (e : Entry). slice_of text e.span) (map (run_entry 0 r) (range_with_len 0 n)) ≡ slice_range text (run_span r).first_byte ((run_span r).first_byte + n * byte_count (run_span r))
  slices-upto zero =
      let e : (run_span r).first_byte + 0 * byte_count (run_span r) - (run_span r).first_byte ≡ 0 = none-upto (run_span r).first_byte (byte_count (run_span r)) in
      ap (λ k. take k (drop (run_span r).first_byte text)) (sym e)
  slices-upto (suc n) =
      let f : Entry → List ℕ = λ e. slice_of text e.span in
      let size = byte_count (run_span r) in
      let from = (run_span r).first_byte in
      let e : suc n ≡ n + 1 = omega arith in
      let low = some-upto from n size in
      let high = one-upto from n size in
      ap (λ k. flat_map f (map (run_entry 0 r) (range_with_len 0 k))) e
      ∙ ap (flat_map f) (map-range_with_len_more (run_entry 0 r) 0 n n (omega arith))
      ∙ flat_map-append f (map (run_entry 0 r) (range_with_len 0 n)) (run_entry 0 r n ∷ [])
      ∙ ap (λ t. t ++ flat_map f (run_entry 0 r n ∷ [])) (slices-upto n)
      ∙ ap (λ t. slice_range text from (from + n * size) ++ t) (flat_map-cons f (run_entry 0 r n) [] ∙ append-nil (f (run_entry 0 r n)) ∙ cluster-slice n)
      ∙ sym (slice-parts text from (from + n * size) (from + (n + 1) * size) low high)
      ∙ ap (λ k. slice_range text from (from + k * size)) (sym e)

  pub slices-text : run_slices text r ≡ slice_range text (run_span r).first_byte (span_after r.span.further (run_span r)).end_byte
  slices-text = slices-upto (cluster_count r) ∙ ap (slice_range text (run_span r).first_byte) (sym (ends-next text r h r.span.further))

-- ---- the clusters of a run of an odd level

module _ (text : List ℕ) (r : ClusterRun) (h : IsPrintable text r) (odd : r.level % 2 ≡ 1) where
  from-last : (number : ℕ) → cluster_from_left r number ≡ r.span.further - number
  from-last number = ap (λ k. cond (k == 1) (r.span.further - number) number) odd

  -- the cluster behind so many from the left ends where as many others do as are left, and begins a cluster before
  module _ (number end : ℕ) (lt : number < cluster_count r) (is : end ≡ (run_span r).first_byte + (cluster_count r - number) * byte_count (run_span r)) where
    pub left-is : (cluster_count r - number) * byte_count (run_span r) ≡ (r.span.further - number) * byte_count (run_span r) + byte_count (run_span r)
    left-is =
        let e : cluster_count r - number ≡ r.span.further - number + 1 = omega arith in
        let all = ap (λ k. k * byte_count (run_span r)) e in
        omega arith

    pub start-odd : end - byte_count (run_span r) ≡ (span_after (cluster_from_left r number) (run_span r)).first_byte
    start-odd =
        let all = left-is in
        let e : end - byte_count (run_span r) ≡ (run_span r).first_byte + (r.span.further - number) * byte_count (run_span r) = omega arith in
        e ∙ sym (ap (λ k. (span_after k (run_span r)).first_byte) (from-last number))

    pub end-odd : end ≡ (span_after (cluster_from_left r number) (run_span r)).end_byte
    end-odd =
        let all = left-is in
        let order = (first-slice text r h).order in
        let e : end ≡ (run_span r).end_byte + (r.span.further - number) * byte_count (run_span r) = omega arith in
        e ∙ sym (ap (λ k. (span_after k (run_span r)).end_byte) (from-last number))

    pub start-next : end - byte_count (run_span r) ≡ (run_span r).first_byte + (cluster_count r - (number + 1)) * byte_count (run_span r)
    start-next =
        let all = left-is in
        let e : cluster_count r - (number + 1) ≡ r.span.further - number = omega arith in
        let same = ap (λ k. k * byte_count (run_span r)) e in
        omega arith

    pub within-odd : byte_count (run_span r) ≤ end
    within-odd = let all = left-is in omega arith

    pub slice-odd : IsSlice text (span_after (cluster_from_left r number) (run_span r))
    slice-odd = h.slices (cluster_from_left r number) (from_left-within r number (omega arith))

-- ---- a run whose clusters print what stands in the text

-- a code point may be shown by others: it separates segments, or has a mirror (UAX #9, L4)
abbrev pub is_replaced : TableValues → ℕ → Bool
is_replaced tables c = separates_segments tables c || is_some (mirror_of tables c)

begins-none : (tables : TableValues) (points : List ℕ) → list_any (separates_segments tables) points ≡ false → begins_with_tab tables points ≡ false
begins-none tables [] none = refl
begins-none tables (c ∷ rest) none = (or_parts (separates_segments tables c) (list_any (separates_segments tables) rest) none).0

-- a code point without a mirror is its own
unwrap-none : (o : Option ℕ) (c : ℕ) → is_some o ≡ false → unwrap_or o c ≡ c
unwrap-none None c none = refl
unwrap-none (Some m) c none = absurd (true≢false none)

either-own : (b : Bool) (x c : ℕ) → x ≡ c → cond b x c ≡ c
either-own true x c e = e
either-own false x c e = refl

-- among code points that are not replaced there is no tab
kept-tab : (tables : TableValues) (points : List ℕ) → list_any (is_replaced tables) points ≡ false → begins_with_tab tables points ≡ false
kept-tab tables [] none = refl
kept-tab tables (c ∷ rest) none =
    (or_parts (separates_segments tables c) (is_some (mirror_of tables c)) (or_parts (is_replaced tables c) (list_any (is_replaced tables) rest) none).0).0

-- and each is shown at any level
kept-points : (tables : TableValues) (level : ℕ) (points : List ℕ) → list_any (is_replaced tables) points ≡ false → map (λ c. mirrored_of tables c level) points ≡ points
kept-points tables level [] none = refl
kept-points tables level (c ∷ rest) none =
    let parts = or_parts (is_replaced tables c) (list_any (is_replaced tables) rest) none in
    let alone = (or_parts (separates_segments tables c) (is_some (mirror_of tables c)) parts.0).1 in
    ap (λ x. x ∷ map (λ c. mirrored_of tables c level) rest)
    (either-own (is_odd level) (unwrap_or (mirror_of tables c) c) c (unwrap-none (mirror_of tables c) c alone))
    ∙ ap (λ l. c ∷ l) (kept-points tables level rest parts.1)

kept-text : (tables : TableValues) (level : ℕ) (bytes : List ℕ) → IsUtf8 bytes → list_any (is_replaced tables) (code_points bytes) ≡ false → mirrored_text tables level (code_points bytes) ≡ bytes
kept-text tables level bytes u none = ap encode_utf8_all (kept-points tables level (code_points bytes) none) ∙ encodes-chars bytes u

module _ (text : List ℕ) (u : IsUtf8 text) (p : ℕ → Bool) where
  -- what no code point of a stretch has, none of a part of it has
  part-none : (from i j to : ℕ) → from ≤ i → i ≤ j → j ≤ to → IsCharBoundary text from → IsCharBoundary text i → IsCharBoundary text j → IsCharBoundary text to
      → list_any p (code_points (slice_range text from to)) ≡ false → list_any p (code_points (slice_range text i j)) ≡ false
  part-none from i j to a b c bf bi bj bt none =
      let front = slice_range text from i in
      let part = slice_range text i j in
      let back = slice_range text j to in
      let whole = slice-parts text from i to a (omega arith) ∙ ap (λ t. front ++ t) (slice-parts text i j to b c) in
      let points = ap code_points whole ∙ chars-append front (part ++ back) (IsUtf8-between text from i u a bf bi) ∙ ap (λ t. code_points front ++ t) (chars-append part back (IsUtf8-between text i j u b bi bj)) in
      let tests = sym none ∙ ap (list_any p) points ∙ list_any-append p (code_points front) (code_points part ++ code_points back)
      ∙ ap (λ t. list_any p (code_points front) || t) (list_any-append p (code_points part) (code_points back)) in
      let later = or_parts (list_any p (code_points front)) (list_any p (code_points part) || list_any p (code_points back)) (sym tests) in
      (or_parts (list_any p (code_points part)) (list_any p (code_points back)) later.1).0

module _ (tables : TableValues) (text : List ℕ) (r : ClusterRun) (h : IsPrintable text r) (u : IsUtf8 text) (some : 0 < r.columns) where
  module _ (p : ℕ → Bool) (none : list_any p (code_points (slice_range text (run_span r).first_byte (span_after r.span.further (run_span r)).end_byte)) ≡ false) where
    -- what no code point of the run has, none of a cluster has
    cluster-none : (number : ℕ) → number ≤ r.span.further → list_any p (code_points (slice_of text (span_after number (run_span r)))) ≡ false
    cluster-none number le =
        let size = byte_count (run_span r) in
        let from = (run_span r).first_byte + number * size in
        let to = (run_span r).end_byte + number * size in
        let here = h.slices number le in
        let first = first-slice text r h in
        let last = last-slice text r h in
        let low = some-upto (run_span r).first_byte number size in
        let high : to ≤ (run_span r).end_byte + r.span.further * size = (let more = mul-le-mul_right size le in omega arith) in
        part-none text u p (run_span r).first_byte from to ((run_span r).end_byte + r.span.further * size) low here.order high first.start here.start here.end last.end none

  cluster-utf8 : (number : ℕ) → number ≤ r.span.further → IsUtf8 (slice_of text (span_after number (run_span r)))
  cluster-utf8 number le =
      let here = h.slices number le in
      IsUtf8-between text (span_after number (run_span r)).first_byte (span_after number (run_span r)).end_byte u here.order here.start here.end

  each-same : ((k : ℕ) → k ≤ r.span.further → own_text tables text (run_entry 0 r k) ≡ slice_of text (run_entry 0 r k).span) → (from n : ℕ) → from + n ≤ cluster_count r
      → flat_map (own_text tables text) (map (run_entry 0 r) (range_with_len from n)) ≡ flat_map (λ (e : Entry). slice_of text e.span) (map (run_entry 0 r) (range_with_len from n))
  each-same same from zero le = refl
  each-same same from (suc n) le =
      let f = own_text tables text in
      let g : Entry → List ℕ = λ e. slice_of text e.span in
      let later = map (run_entry 0 r) (range_with_len (from + 1) n) in
      flat_map-cons f (run_entry 0 r from) later
      ∙ ap (λ t. t ++ flat_map f later) (same from (omega arith))
      ∙ ap (λ t. g (run_entry 0 r from) ++ t) (each-same same (from + 1) n (omega arith))
      ∙ sym (flat_map-cons g (run_entry 0 r from) later)

  -- no tab is in it, and nothing is mirrored at its level
  pub even-clusters : r.level % 2 ≡ 0 → list_any (separates_segments tables) (code_points (slice_range text (run_span r).first_byte (span_after r.span.further (run_span r)).end_byte)) ≡ false
      → run_text tables text r ≡ run_slices text r
  even-clusters even none =
      each-same
      (λ k le.
      let number = cluster_from_left r k in
      let within = from_left-within r k le in
      let bytes = slice_of text (span_after number (run_span r)) in
      own-slice tables text (run_entry 0 r k) some (begins-none tables (code_points bytes) (cluster-none (separates_segments tables) none number within))
      (even-text tables r.level bytes even (cluster-utf8 number within)))
      0 (cluster_count r) (omega arith)

  -- nothing in it is ever replaced
  pub kept-clusters : list_any (is_replaced tables) (code_points (slice_range text (run_span r).first_byte (span_after r.span.further (run_span r)).end_byte)) ≡ false
      → run_text tables text r ≡ run_slices text r
  kept-clusters none =
      each-same
      (λ k le.
      let number = cluster_from_left r k in
      let within = from_left-within r k le in
      let bytes = slice_of text (span_after number (run_span r)) in
      let kept = cluster-none (is_replaced tables) none number within in
      own-slice tables text (run_entry 0 r k) some (kept-tab tables (code_points bytes) kept) (kept-text tables r.level bytes (cluster-utf8 number within) kept))
      0 (cluster_count r) (omega arith)
