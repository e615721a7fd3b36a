-- Each place of clusters that follow one another lies in exactly one of them.
use Rattle.std.proofs.Common.{◌≡◌, ℕ, suc, ◌+◌, ◌<◌, ◌≤◌, ◌&&◌, Bool, true, false, List, [], ◌∷◌, map, length, leb, IsPermutation, refl, sym, ap, ◌∙◌, arith, inl, inr}
use Rattle.std.proofs.Math.Bool.{and-false}
use Rattle.std.proofs.lemmas.Bool.{le-leb, lt-leb, leb-true, and_parts}
use Rattle.std.proofs.lemmas.Bool.Decides.{leb_tells}
use Rattle.std.proofs.lemmas.List.Elements.{All-nil, All-cons, All-head, All-tail, All-weaker}
use Rattle.std.proofs.lemmas.List.Sorted.{All-permutation, sum_by-IsPermutation}
use Rattle.std.specs.List.{All}
use Rattle.paragraphs.specs.Text.{code_points}
use Rattle.paragraphs.specs.declared.span.Span.{Span}
use Rattle.cell_grid.specs.declared.entry.Entry.{Entry}
use Rattle.cell_grid.specs.Spans.{span_at, spans_from}
use Rattle.cell_grid.specs.Rows.{DrawnRow}
use Rattle.cell_grid.specs.Laws.{Holds, IsWithin, HoldsPlacesOnce}
use Rattle.cell_grid.proofs.Standing.{points}
use Rattle.cell_grid.proofs.Slicing.{All-unmap}
use Rattle.cell_grid.proofs.Lookups.{one_if, passing, passing-cons, one-number, number-of, All-at}

-- the place lies there
abbrev pub holds : ℕ → Span → Bool
holds place s = leb s.first_place place && leb (suc place) s.end_place

holds-true : (place : ℕ) (s : Span) → s.first_place ≤ place → place < s.end_place → holds place s ≡ true
holds-true place s low high = ap (λ b. b && leb (suc place) s.end_place) (le-leb s.first_place place low) ∙ le-leb (suc place) s.end_place (omega arith)

holds-early : (place : ℕ) (s : Span) → place < s.first_place → holds place s ≡ false
holds-early place s lt = ap (λ b. b && leb (suc place) s.end_place) (lt-leb s.first_place place lt)

holds-late : (place : ℕ) (s : Span) → s.end_place ≤ place → holds place s ≡ false
holds-late place s le = ap (λ b. leb s.first_place place && b) (lt-leb (suc place) s.end_place (omega arith)) ∙ and-false (leb s.first_place place)

holds-tells : (place : ℕ) (s : Span) → holds place s ≡ true → (s.first_place ≤ place) × (place < s.end_place)
holds-tells place s h =
    let parts = and_parts (leb s.first_place place) (leb (suc place) s.end_place) h in
    let high = leb-true (suc place) s.end_place parts.1 in
    (leb-true s.first_place place parts.0, omega arith)

-- ---- clusters that follow one another

none-before : (place byte from : ℕ) (cs : List (List ℕ)) → place < from → passing (holds place) (spans_from byte from cs) ≡ 0
none-before place byte from [] lt = refl
none-before place byte from (c ∷ cs) lt =
    let s = span_at byte from c in
    let later = none-before place (byte + length c) (from + length (code_points c)) cs (omega arith) in
    let all = passing-cons (holds place) s (spans_from (byte + length c) (from + length (code_points c)) cs) in
    let own : one_if (holds place s) ≡ 0 = ap one_if (holds-early place s lt) in
    omega arith

one-holds : (place byte from : ℕ) (cs : List (List ℕ)) → from ≤ place → place < from + points cs → passing (holds place) (spans_from byte from cs) ≡ 1
one-holds place byte from [] low high = absurd (omega arith)
one-holds place byte from (c ∷ cs) low high =
    let s = span_at byte from c in
    let rest = spans_from (byte + length c) (from + length (code_points c)) cs in
    let all = passing-cons (holds place) s rest in
    elim (leb_tells (suc place) (from + length (code_points c))) [
      | inl here ↦
          let lt = here.1 in
          let own : one_if (holds place s) ≡ 1 = ap one_if (holds-true place s low (omega arith)) in
          let later = none-before place (byte + length c) (from + length (code_points c)) cs (omega arith) in
          omega arith
      | inr behind ↦
          let ge = behind.1 in
          let own : one_if (holds place s) ≡ 0 = ap one_if (holds-late place s (omega arith)) in
          let later = one-holds place (byte + length c) (from + length (code_points c)) cs (omega arith) (omega arith) in
          omega arith
    ]

-- a span with a place, within these
pub record IsAmong (from to : ℕ) (s : Span) : Type 0 where
  pub low : from ≤ s.first_place
  pub some : s.first_place < s.end_place
  pub high : s.end_place ≤ to

among : (byte from to : ℕ) (cs : List (List ℕ)) → All (λ (c : List ℕ). 0 < length (code_points c)) cs → from + points cs ≤ to → All (IsAmong from to) (spans_from byte from cs)
among byte from to [] some le = All-nil (IsAmong from to)
among byte from to (c ∷ cs) some le =
    let first = All-head (λ (x : List ℕ). 0 < length (code_points x)) c cs some in
    let next = from + length (code_points c) in
    All-cons (IsAmong from to) (span_at byte from c) (spans_from (byte + length c) next cs)
    (record { low = omega arith; some = omega arith; high = omega arith })
    (All-weaker (IsAmong next to) (IsAmong from to)
    (λ s h. let low = h.low in let some = h.some in let high = h.high in record { low = omega arith; some = some; high = high })
    (spans_from (byte + length c) next cs)
    (among (byte + length c) next to cs (All-tail (λ (x : List ℕ). 0 < length (code_points x)) c cs some) (omega arith)))

passing-map : (f : Span → Bool) (es : List Entry) → passing (λ (e : Entry). f e.span) es ≡ passing f (map (λ (e : Entry). e.span) es)
passing-map f [] = refl
passing-map f (e ∷ es) =
    passing-cons (λ (x : Entry). f x.span) e es ∙ ap (λ n. one_if (f e.span) + n) (passing-map f es) ∙ sym (passing-cons f e.span (map (λ (x : Entry). x.span) es))

-- a row whose entries are such clusters
module _ (r : DrawnRow) (byte from : ℕ) (cs : List (List ℕ)) (some : All (λ (c : List ℕ). 0 < length (code_points c)) cs)
    (p : IsPermutation (spans_from byte from cs) (map (λ (e : Entry). e.span) r.entries)) (first : r.first_place ≡ from) (last : r.last_place ≡ from + points cs) where
  entries-among : All (λ (e : Entry). IsAmong from (from + points cs) e.span) r.entries
  entries-among =
      All-unmap (IsAmong from (from + points cs)) (λ (e : Entry). e.span) r.entries
      (All-permutation (IsAmong from (from + points cs)) (spans_from byte from cs) (map (λ (e : Entry). e.span) r.entries) p (among byte from (from + points cs) cs some (omega arith)))

  one : (place : ℕ) → from ≤ place → place < from + points cs → passing (λ (e : Entry). holds place e.span) r.entries ≡ 1
  one place low high =
      passing-map (holds place) r.entries
      ∙ sum_by-IsPermutation (λ s. one_if (holds place s)) (spans_from byte from cs) (map (λ (e : Entry). e.span) r.entries) p
      ∙ one-holds place byte from cs low high

  holder : (place : ℕ) → r.first_place ≤ place → place < r.last_place → (n : ℕ) × Holds r n place
  holder place low high =
      let h = number-of (λ (e : Entry). holds place e.span) r.entries (one place (omega arith) (omega arith)) in
      let tells = holds-tells place h.1.span h.3 in
      (h.0, record { entry = h.1; is = h.2; from = tells.0; to = tells.1 })

  unique : (place m n : ℕ) → Holds r m place → Holds r n place → m ≡ n
  unique place m n a b =
      let in_row = All-at (λ (e : Entry). IsAmong from (from + points cs) e.span) r.entries m a.entry a.is entries-among in
      let low = in_row.low in
      let high = in_row.high in
      let from_a = a.from in
      let to_a = a.to in
      let count = one place (omega arith) (omega arith) in
      one-number (λ (e : Entry). holds place e.span) r.entries m n a.entry b.entry (omega arith)
      a.is (holds-true place a.entry.span a.from a.to) b.is (holds-true place b.entry.span b.from b.to)

  pub once : HoldsPlacesOnce r
  once = record {
    within = All-weaker (λ (e : Entry). IsAmong from (from + points cs) e.span) (IsWithin r)
        (λ e h. let low = h.low in let some = h.some in let high = h.high in record { from = omega arith; some = some; to = omega arith }) r.entries entries-among;
    each = holder;
    once = unique;
  }
