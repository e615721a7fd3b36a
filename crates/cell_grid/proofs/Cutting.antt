-- Runs of clusters of one shape, cut behind some of their clusters.
use Rattle.std.proofs.Common.{◌≡◌, ℕ, zero, suc, ◌+◌, ◌-◌, ◌*◌, ◌<◌, ◌≤◌, List, [], ◌∷◌, ◌++◌, map, length, take, drop, get_or, slice_get, replicate, flat_map, refl, sym, ap, subst, ◌∙◌, arith, append_assoc, append-nil, length-append, inl, inr}
use Rattle.std.proofs.Math.Seq.{take-add, take-append-add, drop-append-add}
use Rattle.std.proofs.lemmas.Bool.Decides.{leb_tells}
use Rattle.std.proofs.lemmas.List.{map-append, replicate-append-replicate, length-replicate, length-drop, drop-drop, drop_at}
use Rattle.std.proofs.lemmas.List.Concat.{flat_map-cons}
use Rattle.std.proofs.lemmas.List.Elements.{All-tail}
use Rattle.std.proofs.lemmas.List.FromFn.{length-map-range_with_len}
use Rattle.std.proofs.lemmas.Simd.{map-map}
use Rattle.std.specs.List.{All, range_with_len}
use Rattle.paragraphs.specs.declared.span.Span.{Span}
use Rattle.line_break.specs.declared.run.ShapeRun.{ShapeRun}
use Rattle.line_break.specs.Runs.{span_in, spans_of, sizes_of, columns_of}
use Rattle.cell_grid.specs.Parts.{front, behind, all_spans, IsWithin, ArePassed}
use Rattle.cell_grid.specs.Spans.{up_to, extent}
use Rattle.cell_grid.proofs.Extents.{extent-ends}
use Rattle.cell_grid.proofs.Lookups.{get-right}
use Rattle.cell_grid.proofs.Numbered.{map-range-same}
use Rattle.cell_grid.proofs.Standing.{span_of}
use Rattle.cell_grid.proofs.Steps.{drop-next, drop-none}

-- ---- numbers from one on

range-append : (from a b : ℕ) → range_with_len from (a + b) ≡ range_with_len from a ++ range_with_len (from + a) b
range-append from zero b =
    let e : from ≡ from + 0 = omega arith in
    let n : 0 + b ≡ b = omega arith in
    ap (range_with_len from) n ∙ ap (λ k. range_with_len k b) e
range-append from (suc a) b =
    let n : suc a + b ≡ suc (a + b) = omega arith in
    let e : from + 1 + a ≡ from + suc a = omega arith in
    ap (range_with_len from) n ∙ ap (λ l. from ∷ l) (range-append (from + 1) a b ∙ ap (λ k. range_with_len (from + 1) a ++ range_with_len k b) e)

pub rising : (b from n : ℕ) → range_with_len (b + from) n ≡ map (λ i. b + i) (range_with_len from n)
rising b from zero = refl
rising b from (suc n) =
    let e : b + from + 1 ≡ b + (from + 1) = omega arith in
    ap (λ l. (b + from) ∷ l) (ap (λ k. range_with_len k n) e ∙ rising b (from + 1) n)

map-parts : {X : Type 0} (f : ℕ → X) (a b : ℕ) → map f (range_with_len 0 (a + b)) ≡ map f (range_with_len 0 a) ++ map (λ i. f (a + i)) (range_with_len 0 b)
map-parts f a b =
    let e : 0 + a ≡ a + 0 = omega arith in
    ap (map f) (range-append 0 a b) ∙ map-append f (range_with_len 0 a) (range_with_len (0 + a) b)
    ∙ ap (λ l. map f (range_with_len 0 a) ++ l)
    (ap (λ k. map f (range_with_len k b)) e ∙ ap (map f) (rising a 0 b) ∙ map-map f (λ i. a + i) (range_with_len 0 b))

-- ---- one run in two

module _ (n : ℕ) (run : ShapeRun) (le : n ≤ run.count) where
  count-is : run.count ≡ n + (run.count - n)
  count-is = omega arith

  span-behind : (i : ℕ) → span_in run (n + i) ≡ span_in (behind n run) i
  span-behind i =
      let b : run.first_byte + (n + i) * run.bytes ≡ run.first_byte + n * run.bytes + i * run.bytes = omega arith in
      let p : run.first_place + (n + i) * run.points ≡ run.first_place + n * run.points + i * run.points = omega arith in
      ap (λ k. span_of k (k + run.bytes) (run.first_place + (n + i) * run.points) (run.first_place + (n + i) * run.points + run.points)) b
      ∙ ap (λ k. span_of (run.first_byte + n * run.bytes + i * run.bytes) (run.first_byte + n * run.bytes + i * run.bytes + run.bytes) k (k + run.points)) p

  pub spans-cut : spans_of run ≡ spans_of (front n run) ++ spans_of (behind n run)
  spans-cut =
      ap (λ k. map (span_in run) (range_with_len 0 k)) count-is ∙ map-parts (span_in run) n (run.count - n)
      ∙ ap (λ l. spans_of (front n run) ++ l) (map-range-same (λ i. span_in run (n + i)) (span_in (behind n run)) 0 (run.count - n) (λ k low high. span-behind k))

  pub sizes-cut : sizes_of run ≡ sizes_of (front n run) ++ sizes_of (behind n run)
  sizes-cut = ap (λ k. replicate k run.points) count-is ∙ sym (replicate-append-replicate n (run.count - n) run.points)

  pub columns-cut : columns_of run ≡ columns_of (front n run) ++ columns_of (behind n run)
  columns-cut = ap (λ k. replicate k run.columns) count-is ∙ sym (replicate-append-replicate n (run.count - n) run.columns)

  pub behind-within : IsWithin run → IsWithin (behind n run)
  behind-within h =
      let b = ap (λ k. k * run.bytes) count-is in
      let p = ap (λ k. k * run.points) count-is in
      record { points = h.points; bytes = omega arith; places = omega arith }

-- ---- lists of runs

-- some of the first run's clusters are passed
module _ {X : Type 0} (f : ShapeRun → List X) (n left : ℕ) (run : ShapeRun) (later : List ShapeRun) (le : n ≤ left) (cut : f run ≡ f (front n run) ++ f (behind n run))
    (long : length (f (front n run)) ≡ n) where
  front-first : flat_map f (run ∷ later) ≡ f (front n run) ++ flat_map f (behind n run ∷ later)
  front-first =
      flat_map-cons f run later ∙ ap (λ l. l ++ flat_map f later) cut ∙ append_assoc (f (front n run)) (f (behind n run)) (flat_map f later)
      ∙ ap (λ l. f (front n run) ++ l) (sym (flat_map-cons f (behind n run) later))

  left-is : left ≡ length (f (front n run)) + (left - n)
  left-is = omega arith

  pub taken : f (front n run) ++ take (left - n) (flat_map f (behind n run ∷ later)) ≡ take left (flat_map f (run ∷ later))
  taken =
      sym (ap (take left) front-first ∙ ap (λ k. take k (f (front n run) ++ flat_map f (behind n run ∷ later))) left-is
      ∙ take-append-add (f (front n run)) (flat_map f (behind n run ∷ later)) (left - n))

  pub dropped : drop (left - n) (flat_map f (behind n run ∷ later)) ≡ drop left (flat_map f (run ∷ later))
  dropped =
      sym (ap (drop left) front-first ∙ ap (λ k. drop k (f (front n run) ++ flat_map f (behind n run ∷ later))) left-is
      ∙ drop-append-add (f (front n run)) (flat_map f (behind n run ∷ later)) (left - n))

  pub one-less : length (flat_map f (run ∷ later)) ≡ n + length (flat_map f (behind n run ∷ later))
  one-less =
      ap length front-first ∙ length-append (f (front n run)) (flat_map f (behind n run ∷ later)) ∙ ap (λ k. k + length (flat_map f (behind n run ∷ later))) long

-- a run of no clusters tells nothing
none-of : {X : Type 0} (f : ShapeRun → List X) (run : ShapeRun) (later : List ShapeRun) → f run ≡ [] → flat_map f (run ∷ later) ≡ flat_map f later
none-of f run later none = flat_map-cons f run later ∙ ap (λ l. l ++ flat_map f later) none

pub passed-none : (run : ShapeRun) (later : List ShapeRun) → run.count ≡ 0 → ArePassed 0 (run ∷ later) later
passed-none run later none = record {
  spans = sym (none-of spans_of run later (ap (λ k. map (span_in run) (range_with_len 0 k)) none));
  sizes = sym (none-of sizes_of run later (ap (λ k. replicate k run.points) none));
  columns = sym (none-of columns_of run later (ap (λ k. replicate k run.columns) none));
}

pub passed-same : (runs : List ShapeRun) → ArePassed 0 runs runs
passed-same runs = record { spans = refl; sizes = refl; columns = refl }

-- how many clusters a run has
pub length-spans_of : (run : ShapeRun) → length (spans_of run) ≡ run.count
length-spans_of run = length-map-range_with_len (span_in run) 0 run.count

-- the next run is begun
module _ (runs : List ShapeRun) (first : ShapeRun) (next : ℕ) where
  pub next-there : first.count < length (all_spans (first ∷ drop next runs)) → next < length runs
  next-there more = elim (leb_tells (suc next) (length runs)) [
    | inl lt ↦ (let within = lt.1 in omega arith)
    | inr ge ↦
        let out = ge.1 in
        let le : length runs ≤ next = omega arith in
        let gone = ap (λ l. length (all_spans (first ∷ l))) (drop-none runs next le) in
        let own = ap length (flat_map-cons spans_of first [] ∙ append-nil (spans_of first)) ∙ length-spans_of first in
        absurd (omega arith)
  ]

  module _ (run d : ShapeRun) (lt : next < length runs) (is : run ≡ get_or runs next d) where
    passed-one : {X : Type 0} (f : ShapeRun → List X) → length (f first) ≡ first.count → flat_map f (run ∷ drop (next + 1) runs) ≡ drop first.count (flat_map f (first ∷ drop next runs))
    passed-one f n =
        ap (flat_map f) (sym (drop-next runs next run d lt is))
        ∙ sym (ap (drop first.count) (flat_map-cons f first (drop next runs)) ∙ drop_at (f first) (flat_map f (drop next runs)) first.count n)

    pub passed-run : ArePassed first.count (first ∷ drop next runs) (run ∷ drop (next + 1) runs)
    passed-run = record {
      spans = passed-one spans_of (length-spans_of first);
      sizes = passed-one sizes_of (length-replicate first.count first.points);
      columns = passed-one columns_of (length-replicate first.count first.columns);
    }

    pub within-next : All IsWithin (first ∷ drop next runs) → All IsWithin (run ∷ drop (next + 1) runs)
    within-next h = subst (All IsWithin) (drop-next runs next run d lt is) (All-tail IsWithin first (drop next runs) h)

-- some are passed, and then others
pub passed-then : {X : Type 0} (all before after : List X) (count left n : ℕ) → left ≤ count → n ≤ left → before ≡ drop (count - left) all → after ≡ drop n before → after ≡ drop (count - (left - n)) all
passed-then all before after count left n few le a b =
    let e : count - left + n ≡ count - (left - n) = omega arith in
    b ∙ ap (drop n) a ∙ drop-drop n (count - left) all ∙ ap (λ k. drop k all) e

pub length-passed : {X : Type 0} (before after : List X) (n : ℕ) → after ≡ drop n before → length after ≡ length before - n
length-passed before after n e = ap length e ∙ length-drop n before

-- ---- their extent

extent-both : (S front mid : List Span) (s e : Span) → S ≡ s ∷ mid → S ≡ front ++ e ∷ [] → up_to s e ≡ extent S
extent-both S front mid s e a b =
    let n = ap length b ∙ length-append front (e ∷ []) in
    let last : length S - 1 ≡ length front + 0 = omega arith in
    extent-ends S s e (sym (ap (λ l. slice_get l 0) a))
    (sym (ap (λ k. slice_get S k) last ∙ ap (λ l. slice_get l (length front + 0)) b ∙ get-right front (e ∷ []) (length front) 0 refl))

-- the last cluster of a run
pub last-span : (run : ShapeRun) → 0 < run.count → spans_of run ≡ spans_of (front (run.count - 1) run) ++ span_in (behind (run.count - 1) run) 0 ∷ []
last-span run some =
    let one : run.count - (run.count - 1) ≡ 1 = omega arith in
    spans-cut (run.count - 1) run (omega arith)
    ∙ ap (λ n. spans_of (front (run.count - 1) run) ++ map (span_in (behind (run.count - 1) run)) (range_with_len 0 n)) one

span-same : (a b c d a' b' c' d' : ℕ) → a ≡ a' → b ≡ b' → c ≡ c' → d ≡ d' → span_of a b c d ≡ span_of a' b' c' d'
span-same a b c d a' b' c' d' e f g h =
    ap (λ x. span_of x b c d) e ∙ ap (λ x. span_of a' x c d) f ∙ ap (λ x. span_of a' b' x d) g ∙ ap (λ x. span_of a' b' c' x) h

ends-span : (first last : ShapeRun) → 0 < last.count
    → span_of first.first_byte (last.first_byte + last.count * last.bytes) first.first_place (last.first_place + last.count * last.points)
    ≡ up_to (span_in first 0) (span_in (behind (last.count - 1) last) 0)
ends-span first last some =
    let c : last.count ≡ last.count - 1 + 1 = omega arith in
    let b = ap (λ k. k * last.bytes) c in
    let p = ap (λ k. k * last.points) c in
    span-same _ _ _ _ (first.first_byte + 0 * first.bytes) (last.first_byte + (last.count - 1) * last.bytes + 0 * last.bytes + last.bytes)
    (first.first_place + 0 * first.points) (last.first_place + (last.count - 1) * last.points + 0 * last.points + last.points)
    (omega arith) (omega arith) (omega arith) (omega arith)

-- so many clusters from the first of a run on, up to one of the same run or a later one
module _ (S : List Span) (first last : ShapeRun) (others later : List ShapeRun) (count left : ℕ) (some : 0 < left) (few : left ≤ count) (within : left ≤ last.count) (begun : 0 < first.count)
    (from : all_spans (first ∷ others) ≡ S) (to : all_spans (last ∷ later) ≡ drop (count - left) S) where
  from-first : take count S ≡ span_in first 0 ∷ take (count - 1) (all_spans (behind 1 first ∷ others))
  from-first =
      ap (take count) (sym from)
      ∙ sym (taken spans_of 1 count first others (omega arith) (spans-cut 1 first (omega arith)) (length-spans_of (front 1 first)))

  up-to-last : take count S ≡ (take (count - left) S ++ spans_of (front (left - 1) (front left last))) ++ span_in (behind (left - 1) (front left last)) 0 ∷ []
  up-to-last =
      let whole : count ≡ count - left + left = omega arith in
      let none : left - left ≡ 0 = omega arith in
      ap (λ n. take n S) whole ∙ take-add (count - left) left S
      ∙ ap (λ l. take (count - left) S ++ l)
      (ap (take left) (sym to)
      ∙ sym (taken spans_of left left last later (omega arith) (spans-cut left last within) (length-spans_of (front left last)))
      ∙ ap (λ n. spans_of (front left last) ++ take n (all_spans (behind left last ∷ later))) none
      ∙ append-nil (spans_of (front left last)) ∙ last-span (front left last) some)
      ∙ sym (append_assoc (take (count - left) S) (spans_of (front (left - 1) (front left last))) (span_in (behind (left - 1) (front left last)) 0 ∷ []))

  pub extent-taken : span_of first.first_byte (last.first_byte + left * last.bytes) first.first_place (last.first_place + left * last.points) ≡ extent (take count S)
  extent-taken =
      ends-span first (front left last) some
      ∙ extent-both (take count S) (take (count - left) S ++ spans_of (front (left - 1) (front left last))) (take (count - 1) (all_spans (behind 1 first ∷ others)))
      (span_in first 0) (span_in (behind (left - 1) (front left last)) 0) from-first up-to-last
