-- Runs that go on where others end.
use Rattle.std.proofs.Common.{◌≡◌, ℕ, zero, suc, ◌+◌, ◌-◌, ◌*◌, ◌<◌, ◌≤◌, Bool, true, false, cond, ◌&&◌, ◌==◌, ◌⊎◌, inl, inr, List, [], ◌∷◌, ◌++◌, map, length, take, get_or, refl, sym, ap, ◌∙◌, arith, append_assoc, append-nil}
use Rattle.std.proofs.lemmas.Bool.{and_left, and_right, eq-eqb, ne_eqb, cond-true, cond-false}
use Rattle.std.proofs.lemmas.Bool.Decides.{eqb_tells}
use Rattle.std.proofs.lemmas.List.FromFn.{map-range_with_len_more}
use Rattle.std.specs.List.{range_with_len}
use Rattle.reorder.specs.VisualList.{is_odd}
use Rattle.paragraphs.specs.declared.span.Span.{Span}
use Rattle.cell_grid.specs.declared.cluster_run.ClusterRun.{ClusterRun}
use Rattle.cell_grid.specs.declared.entry.Entry.{Entry}
use Rattle.cell_grid.specs.RunCounts.{span_behind, same_span, goes_on, runs_behind, run_count}
use Rattle.cell_grid.specs.Runs.{run_span, byte_count, point_count, span_after, cluster_from_left, run_entry, run_entries, runs_columns, runs_entries}
use Rattle.cell_grid.proofs.Alone.{none-after}
use Rattle.cell_grid.proofs.RunEntries.{runs_entries-append}
use Rattle.cell_grid.proofs.Standing.{span_of}
use Rattle.cell_grid.proofs.Steps.{take-next}

-- ---- the clusters of one run

pub same-self : (s t : Span) → s ≡ t → same_span s t ≡ true
same-self s t is =
    let four : (a b c d : ℕ) → ((a == a) && (b == b) && (c == c) && (d == d)) ≡ true = λ a b c d.
    ap (λ x. x && (b == b) && (c == c) && (d == d)) (eq-eqb a a refl)
    ∙ ap (λ x. x && (c == c) && (d == d)) (eq-eqb b b refl)
    ∙ ap (λ x. x && (d == d)) (eq-eqb c c refl)
    ∙ eq-eqb d d refl in
    sym (ap (same_span s) is) ∙ four s.first_byte s.end_byte s.first_place s.end_place

one-further : (x k from end size : ℕ) → size ≡ end - from → x + k * size + (end + k * size - (from + k * size)) ≡ x + (k + 1) * size
one-further x k from end size e = let wide : end + k * size - (from + k * size) ≡ size = omega arith in omega (arith, wide)

-- behind the one with this number stands the next
after-next : (k : ℕ) (s : Span) → span_behind (span_after k s) ≡ span_after (k + 1) s
after-next k s =
    let b = byte_count s in
    let p = point_count s in
    let t = span_behind (span_after k s) in
    let u = span_after (k + 1) s in
    ap (λ x. span_of x t.end_byte t.first_place t.end_place) (one-further s.first_byte k s.first_byte s.end_byte b refl)
    ∙ ap (λ x. span_of u.first_byte x t.first_place t.end_place) (one-further s.end_byte k s.first_byte s.end_byte b refl)
    ∙ ap (λ x. span_of u.first_byte u.end_byte x t.end_place) (one-further s.first_place k s.first_place s.end_place p refl)
    ∙ ap (λ x. span_of u.first_byte u.end_byte u.first_place x) (one-further s.end_place k s.first_place s.end_place p refl)

-- which cluster is further right stands earlier in the text at an odd level
turned-next : (b : Bool) (f k : ℕ) (s : Span) → k < f
    → cond b (same_span (span_behind (span_after (cond b (f - (k + 1)) (k + 1)) s)) (span_after (cond b (f - k) k) s))
    (same_span (span_behind (span_after (cond b (f - k) k) s)) (span_after (cond b (f - (k + 1)) (k + 1)) s)) ≡ true
turned-next true f k s lt =
    let one : f - (k + 1) + 1 ≡ f - k = omega arith in
    same-self (span_behind (span_after (f - (k + 1)) s)) (span_after (f - k) s) (after-next (f - (k + 1)) s ∙ ap (λ n. span_after n s) one)
turned-next false f k s lt = same-self (span_behind (span_after k s)) (span_after (k + 1) s) (after-next k s)

module _ (column : ℕ) (r : ClusterRun) where
  goes-on : (k : ℕ) → k < r.span.further → goes_on (run_entry column r k) (run_entry column r (k + 1)) ≡ true
  goes-on k lt =
      let behind = cond (is_odd r.level) (same_span (span_behind (span_after (cluster_from_left r (k + 1)) (run_span r))) (span_after (cluster_from_left r k) (run_span r)))
      (same_span (span_behind (span_after (cluster_from_left r k) (run_span r))) (span_after (cluster_from_left r (k + 1)) (run_span r))) in
      ap (λ x. x && (r.columns == r.columns) && behind) (eq-eqb r.level r.level refl)
      ∙ ap (λ x. x && behind) (eq-eqb r.columns r.columns refl)
      ∙ turned-next (is_odd r.level) r.span.further k (run_span r) lt

  none-from : (from n : ℕ) → from + n ≤ r.span.further → runs_behind (run_entry column r from) (map (run_entry column r) (range_with_len (from + 1) n)) ≡ 0
  none-from from zero le = refl
  none-from from (suc n) le =
      let one = ap (λ b. cond {A = ℕ} b 0 1) (goes-on from (omega arith)) in
      let none = none-from (from + 1) n (omega arith) in
      omega (arith, one, none)

  -- the first of its entries, and those behind it, which begin no run
  abbrev pub entries_behind : List Entry
  entries_behind = map (run_entry column r) (range_with_len 1 r.span.further)

  pub entries-first : run_entries column r ≡ run_entry column r 0 ∷ entries_behind
  entries-first = let e : r.span.further + 1 ≡ suc r.span.further = omega arith in ap (λ n. map (run_entry column r) (range_with_len 0 n)) e

  pub none-behind : runs_behind (run_entry column r 0) entries_behind ≡ 0
  none-behind = none-from 0 r.span.further (omega arith)

  pub entries-last : run_entries column r ≡ map (run_entry column r) (range_with_len 0 r.span.further) ++ run_entry column r r.span.further ∷ []
  entries-last = map-range_with_len_more (run_entry column r) 0 r.span.further r.span.further (omega arith)

-- ---- spans of other sizes

abbrev Told : (a b : ℕ) → Type 0
Told a b = (((a == b) ≡ true) × (a ≡ b)) ⊎ (((a == b) ≡ false) × (a ≡ b → ⊥))

apart-by : (s t : Span) → (byte_count s ≡ byte_count t → ⊥) → Told (span_behind s).first_byte t.first_byte → Told (span_behind s).end_byte t.end_byte
    → same_span (span_behind s) t ≡ false
apart-by s t other first end =
    let u = span_behind s in
    let a = u.first_byte == t.first_byte in
    let b = u.end_byte == t.end_byte in
    let c = u.first_place == t.first_place in
    let d = u.end_place == t.end_place in
    elim first as (λ _. (a && b && c && d) ≡ false) [
      | inl same ↦ elim end as (λ _. (a && b && c && d) ≡ false) [
        | inl too ↦ absurd (other (omega (arith, same.1, too.1)))
        | inr off ↦ and_left (a && b && c) d (and_left (a && b) c (and_right a b off.0))
      ]
      | inr off ↦ and_left (a && b && c) d (and_left (a && b) c (and_left a b off.0))
    ]

-- the span behind one isn't one of another size
apart : (s t : Span) → (byte_count s ≡ byte_count t → ⊥) → same_span (span_behind s) t ≡ false
apart s t other = apart-by s t other (eqb_tells _ _) (eqb_tells _ _)

size-after : (k : ℕ) (s : Span) → byte_count (span_after k s) ≡ byte_count s
size-after k s = omega arith

-- ---- the last entry of a run, and the first of another

both : (b x y : Bool) → x ≡ false → y ≡ false → cond b x y ≡ false
both true x y e f = e
both false x y e f = f

module _ (l r : ClusterRun) (column next : ℕ) where
  abbrev left : Span
  left = span_after (cluster_from_left l l.span.further) (run_span l)

  abbrev right : Span
  right = span_after (cluster_from_left r 0) (run_span r)

  abbrev behind : Bool
  behind = cond (is_odd l.level) (same_span (span_behind right) left) (same_span (span_behind left) right)

  abbrev go_on : Bool
  go_on = goes_on (run_entry column l l.span.further) (run_entry next r 0)

  pub other-level : (l.level ≡ r.level → ⊥) → go_on ≡ false
  other-level ne = and_left ((l.level == r.level) && (l.columns == r.columns)) behind (and_left (l.level == r.level) (l.columns == r.columns) (ne_eqb l.level r.level ne))

  pub other-columns : (l.columns ≡ r.columns → ⊥) → go_on ≡ false
  other-columns ne = and_left ((l.level == r.level) && (l.columns == r.columns)) behind (and_right (l.level == r.level) (l.columns == r.columns) (ne_eqb l.columns r.columns ne))

  pub other-sizes : (byte_count (run_span l) ≡ byte_count (run_span r) → ⊥) → go_on ≡ false
  other-sizes ne =
      let i = cluster_from_left l l.span.further in
      let j = cluster_from_left r 0 in
      let l_size = size-after i (run_span l) in
      let r_size = size-after j (run_span r) in
      let odd = apart right left (λ e. ne (omega (arith, e, l_size, r_size))) in
      let even = apart left right (λ e. ne (omega (arith, e, l_size, r_size))) in
      and_right ((l.level == r.level) && (l.columns == r.columns)) behind (both (is_odd l.level) (same_span (span_behind right) left) (same_span (span_behind left) right) odd even)

  alike : l.level ≡ r.level → l.columns ≡ r.columns → go_on ≡ behind
  alike level columns =
      ap (λ x. x && (l.columns == r.columns) && behind) (eq-eqb l.level r.level level) ∙ ap (λ x. x && behind) (eq-eqb l.columns r.columns columns)

  pub goes-odd : l.level ≡ r.level → l.columns ≡ r.columns → is_odd l.level ≡ true → go_on ≡ same_span (span_behind (span_after r.span.further (run_span r))) (run_span l)
  goes-odd level columns odd =
      let none : l.span.further - l.span.further ≡ 0 = omega arith in
      let all : r.span.further - 0 ≡ r.span.further = omega arith in
      let last = cond-true (is_odd l.level) (l.span.further - l.span.further) l.span.further odd ∙ none in
      let first = cond-true (is_odd r.level) (r.span.further - 0) 0 (sym (ap is_odd level) ∙ odd) ∙ all in
      alike level columns
      ∙ cond-true (is_odd l.level) (same_span (span_behind right) left) (same_span (span_behind left) right) odd
      ∙ ap (λ k. same_span (span_behind (span_after k (run_span r))) left) first
      ∙ ap (same_span (span_behind (span_after r.span.further (run_span r)))) (ap (λ k. span_after k (run_span l)) last ∙ none-after (run_span l))

  pub goes-even : l.level ≡ r.level → l.columns ≡ r.columns → is_odd l.level ≡ false → go_on ≡ same_span (span_behind (span_after l.span.further (run_span l))) (run_span r)
  goes-even level columns even =
      let last = cond-false (is_odd l.level) (l.span.further - l.span.further) l.span.further even in
      let first = cond-false (is_odd r.level) (r.span.further - 0) 0 (sym (ap is_odd level) ∙ even) in
      alike level columns
      ∙ cond-false (is_odd l.level) (same_span (span_behind right) left) (same_span (span_behind left) right) even
      ∙ ap (λ k. same_span (span_behind (span_after k (run_span l))) right) last
      ∙ ap (same_span (span_behind (span_after l.span.further (run_span l)))) (ap (λ k. span_after k (run_span r)) first ∙ none-after (run_span r))

-- ---- entries, and more behind their last

one-behind : (b : Bool) → cond {A = ℕ} b 0 1 + 0 ≡ cond {A = ℕ} b 0 1
one-behind true = refl
one-behind false = refl

behind-more : (e : Entry) (xs : List Entry) (x f : Entry) (later : List Entry)
    → runs_behind e (xs ++ x ∷ f ∷ later) ≡ runs_behind e (xs ++ x ∷ []) + (cond (goes_on x f) 0 1 + runs_behind f later)
behind-more e [] x f later =
    let here = cond {A = ℕ} (goes_on e x) 0 1 in
    let one = one-behind (goes_on e x) in
    omega arith
behind-more e (y ∷ xs) x f later = let all = behind-more y xs x f later in omega arith

pub count-more : (xs : List Entry) (x f : Entry) (later : List Entry)
    → run_count (xs ++ x ∷ f ∷ later) ≡ run_count (xs ++ x ∷ []) + (cond (goes_on x f) 0 1 + runs_behind f later)
count-more [] x f later = omega arith
count-more (y ∷ xs) x f later = let all = behind-more y xs x f later in omega arith

one-most : (b : Bool) → cond {A = ℕ} b 0 1 ≤ 1
one-most true = omega arith
one-most false = omega arith

behind-most : (e : Entry) (later : List Entry) → runs_behind e later ≤ length later
behind-most e [] = omega arith
behind-most e (f ∷ later) =
    let one = one-most (goes_on e f) in
    let all = behind-most f later in
    omega arith

-- no more than one each
pub count-most : (entries : List Entry) → run_count entries ≤ length entries
count-most [] = omega arith
count-most (e ∷ later) = let all = behind-most e later in omega arith

-- ---- runs, and one more

pub count-one : (column : ℕ) (r : ClusterRun) → run_count (runs_entries column (r ∷ [])) ≡ 1
count-one column r =
    ap run_count (append-nil (run_entries column r) ∙ entries-first column r)
    ∙ ap (λ n. 1 + n) (none-behind column r)

runs-push : (column : ℕ) (front : List ClusterRun) (r : ClusterRun) → runs_entries column (front ++ r ∷ []) ≡ runs_entries column front ++ run_entries (column + runs_columns front) r
runs-push column front r =
    runs_entries-append column front (r ∷ []) ∙ ap (λ l. runs_entries column front ++ l) (append-nil (run_entries (column + runs_columns front) r))

count-next : (column : ℕ) (front : List ClusterRun) (l r : ClusterRun) (b : Bool) → ((at next : ℕ) → b ≡ goes_on (run_entry at l l.span.further) (run_entry next r 0))
    → run_count (runs_entries column ((front ++ l ∷ []) ++ r ∷ [])) ≡ run_count (runs_entries column (front ++ l ∷ [])) + cond b 0 1
count-next column front l r b is =
    let at = column + runs_columns front in
    let next = column + runs_columns (front ++ l ∷ []) in
    let xs = runs_entries column front ++ map (run_entry at l) (range_with_len 0 l.span.further) in
    let x = run_entry at l l.span.further in
    let f = run_entry next r 0 in
    let left : runs_entries column (front ++ l ∷ []) ≡ xs ++ x ∷ [] =
    runs-push column front l ∙ ap (λ es. runs_entries column front ++ es) (entries-last at l)
    ∙ sym (append_assoc (runs_entries column front) (map (run_entry at l) (range_with_len 0 l.span.further)) (x ∷ [])) in
    let all : runs_entries column ((front ++ l ∷ []) ++ r ∷ []) ≡ xs ++ x ∷ f ∷ entries_behind next r =
    runs-push column (front ++ l ∷ []) r
    ∙ ap (λ es. es ++ run_entries next r) left
    ∙ append_assoc xs (x ∷ []) (run_entries next r)
    ∙ ap (λ es. xs ++ x ∷ es) (entries-first next r) in
    let none = none-behind next r in
    let more = ap run_count all ∙ count-more xs x f (entries_behind next r) in
    let same = ap run_count left in
    let step = ap (λ c. cond {A = ℕ} c 0 1) (is at next) in
    omega (arith, none, more, same, step)

-- of the runs up to a number
pub count-none : (column : ℕ) (runs : List ClusterRun) → length runs ≡ 0 → run_count (runs_entries column runs) ≡ 0
count-none column [] none = refl
count-none column (r ∷ later) none = absurd (omega arith)

pub count-to-one : (column : ℕ) (runs : List ClusterRun) → 0 < length runs → run_count (runs_entries column (take 1 runs)) ≡ 1
count-to-one column [] some = absurd (omega arith)
count-to-one column (r ∷ later) some = count-one column r

pub count-to-next : (column : ℕ) (runs : List ClusterRun) (n k : ℕ) (l r d : ClusterRun) (b : Bool) → k + 1 ≡ n → n < length runs → l ≡ get_or runs k d → r ≡ get_or runs n d
    → ((at next : ℕ) → b ≡ goes_on (run_entry at l l.span.further) (run_entry next r 0))
    → run_count (runs_entries column (take (n + 1) runs)) ≡ run_count (runs_entries column (take n runs)) + cond b 0 1
count-to-next column runs n k l r d b next lt left right is =
    let before : take n runs ≡ take k runs ++ l ∷ [] = sym (ap (λ m. take m runs) next) ∙ take-next runs k l d (omega arith) left in
    let all : take (n + 1) runs ≡ (take k runs ++ l ∷ []) ++ r ∷ [] = take-next runs n r d lt right ∙ ap (λ t. t ++ r ∷ []) before in
    ap (λ t. run_count (runs_entries column t)) all
    ∙ count-next column (take k runs) l r b is
    ∙ ap (λ t. run_count (runs_entries column t) + cond b 0 1) (sym before)
