-- The clusters of runs, by their numbers.
use Rattle.std.proofs.Common.{◌≡◌, ℕ, zero, suc, ◌+◌, ◌-◌, ◌<◌, ◌≤◌, List, [], ◌∷◌, length, take, get_or, refl, ap, ◌∙◌, arith}
use Rattle.std.proofs.lemmas.List.{length-append, length-replicate, get_or-replicate, get_or_append_left, get_or-append_right}
use Rattle.std.proofs.lemmas.List.FromFn.{length-map-range_with_len, get_or-map-range_with_len}
use Rattle.std.proofs.lemmas.List.Sums.{sum_by-cons}
use Rattle.std.specs.List.{flat_map}
use Rattle.paragraphs.specs.declared.span.Span.{Span}
use Rattle.line_break.specs.declared.run.ShapeRun.{ShapeRun}
use Rattle.line_break.specs.Cursors.{count_of}
use Rattle.line_break.specs.Runs.{span_in, spans_of, columns_of}

count : ShapeRun → ℕ
count run = run.count

count-cons : (r : ShapeRun) (runs : List ShapeRun) → count_of (r ∷ runs) ≡ r.count + count_of runs
count-cons r runs = sum_by-cons (λ (run : ShapeRun). run.count) r runs

-- one run further
count-suc : (runs : List ShapeRun) (i : ℕ) (d : ShapeRun) → i < length runs → count_of (take (suc i) runs) ≡ count_of (take i runs) + (get_or runs i d).count
count-suc [] i d lt = absurd (omega arith)
count-suc (r ∷ runs) zero d lt = let one = count-cons r [] in omega arith
count-suc (r ∷ runs) (suc i) d lt =
    let later = count-suc runs i d (omega arith) in
    let more = count-cons r (take (suc i) runs) in
    let less = count-cons r (take i runs) in
    omega arith

pub count-next : (runs : List ShapeRun) (i : ℕ) (d : ShapeRun) → i < length runs → count_of (take (i + 1) runs) ≡ count_of (take i runs) + (get_or runs i d).count
count-next runs i d lt = let one : i + 1 ≡ suc i = omega arith in ap (λ n. count_of (take n runs)) one ∙ count-suc runs i d lt

pub count-within : (runs : List ShapeRun) (i : ℕ) → count_of (take i runs) ≤ count_of runs
count-within runs zero = omega arith
count-within [] (suc i) = omega arith
count-within (r ∷ runs) (suc i) =
    let later = count-within runs i in
    let more = count-cons r (take i runs) in
    let all = count-cons r runs in
    omega arith

pub count-all : (runs : List ShapeRun) (i : ℕ) → length runs ≤ i → count_of (take i runs) ≡ count_of runs
count-all [] zero le = refl
count-all [] (suc i) le = refl
count-all (r ∷ runs) zero le = absurd (omega arith)
count-all (r ∷ runs) (suc i) le =
    let later = count-all runs i (omega arith) in
    let more = count-cons r (take i runs) in
    let all = count-cons r runs in
    omega arith

-- lists that have an entry for each cluster
module _ {A : Type 0} (f : ShapeRun → List A) (each : (r : ShapeRun) → length (f r) ≡ r.count) where
  pub length-flat : (runs : List ShapeRun) → length (flat_map f runs) ≡ count_of runs
  length-flat [] = refl
  length-flat (r ∷ runs) = let own = each r in let later = length-flat runs in let both = length-append (f r) (flat_map f runs) in let all = count-cons r runs in omega arith

  flat-suc : (runs : List ShapeRun) (i k : ℕ) (e : ShapeRun) (d : A) → i < length runs → count_of (take i runs) ≤ k → k < count_of (take (suc i) runs)
      → get_or (flat_map f runs) k d ≡ get_or (f (get_or runs i e)) (k - count_of (take i runs)) d
  flat-suc [] i k e d lt low high = absurd (omega arith)
  flat-suc (r ∷ runs) zero k e d lt low high =
      let own = each r in
      let one = count-cons r [] in
      let same : k ≡ k - 0 = omega arith in
      get_or_append_left (f r) (flat_map f runs) d k (omega arith) ∙ ap (λ n. get_or (f r) n d) same
  flat-suc (r ∷ runs) (suc i) k e d lt low high =
      let more = count-cons r (take (suc i) runs) in
      let less = count-cons r (take i runs) in
      let same : k - r.count - count_of (take i runs) ≡ k - count_of (take (suc i) (r ∷ runs)) = omega arith in
      get_or-append_right (f r) (flat_map f runs) r.count k d (each r) (omega arith)
      ∙ flat-suc runs i (k - r.count) e d (omega arith) (omega arith) (omega arith)
      ∙ ap (λ n. get_or (f (get_or runs i e)) n d) same

  -- the entry of a cluster of the run of this number
  pub flat-at : (runs : List ShapeRun) (i k : ℕ) (e : ShapeRun) (d : A) → i < length runs → count_of (take i runs) ≤ k → k < count_of (take (i + 1) runs)
      → get_or (flat_map f runs) k d ≡ get_or (f (get_or runs i e)) (k - count_of (take i runs)) d
  flat-at runs i k e d lt low high =
      let one : i + 1 ≡ suc i = omega arith in
      let same = ap (λ n. count_of (take n runs)) one in
      flat-suc runs i k e d lt low (omega arith)

pub length-spans_of : (run : ShapeRun) → length (spans_of run) ≡ run.count
length-spans_of run = length-map-range_with_len (span_in run) 0 run.count

pub length-columns_of : (run : ShapeRun) → length (columns_of run) ≡ run.count
length-columns_of run = length-replicate run.count run.columns

-- in a run
pub span-at : (run : ShapeRun) (k : ℕ) (d : Span) → k < run.count → get_or (spans_of run) k d ≡ span_in run k
span-at run k d lt = get_or-map-range_with_len (span_in run) 0 run.count k k d lt (omega arith)

pub column-at : (run : ShapeRun) (k d : ℕ) → k < run.count → get_or (columns_of run) k d ≡ run.columns
column-at run k d lt = get_or-replicate run.count k run.columns d lt
