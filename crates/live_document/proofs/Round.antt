-- The window round a place is a stretch of the rows that has it.
use Rattle.std.proofs.Common.{◌≡◌, ℕ, zero, suc, ◌+◌, ◌-◌, ◌<◌, ◌≤◌, min, true, false, inl, inr, List, [], ◌∷◌, ◌++◌, length, get_or, take, drop, slice_range, refl, sym, ap, subst, ◌∙◌, arith, take-append-drop}
use Rattle.std.proofs.lemmas.Bool.{cases_lt, leb-true, leb-false, le-leb}
use Rattle.std.proofs.lemmas.List.{length-drop, length-take-le, get_or-drop, drop_all}
use Rattle.std.proofs.lemmas.List.Folds.{drop_split}
use Rattle.std.proofs.lemmas.Option.{slice_get_within}
use Rattle.std.specs.List.{All}
use Rattle.std.specs.Option.{option_map_or}
use Rattle.std.specs.Prelude.{nat_le, slice_get}
use Rattle.cell_grid.specs.Rows.{DrawnRow}
use Rattle.cell_grid.specs.Windows.{FirstPlacesRise, HasWindow, begins_by, row_at}
use Rattle.cell_grid.proofs.Interface.{last_below-later, last_below-passes, last_below-within, slice_get-second, row_at-second, row_at-within}
use Rattle.caret.specs.declared.position.Position.{Position}
use Rattle.caret.specs.Positions.{IsPositionOf}
use Rattle.caret.proofs.Interface.{rises-at, begins_by-at, row_at-first}
use Rattle.live_document.proofs.Printed.{a_row}
use Rattle.live_document.proofs.Windows.{rises-front, rises-behind}

-- rows that begin by a place are some
some-begun : (rows : List DrawnRow) (place : ℕ) → begins_by rows place 0 ≡ true → 0 < length rows
some-begun [] place begun = cc
some-begun (r ∷ rows) place begun = omega arith

module _ (rows : List DrawnRow) (rises : FirstPlacesRise rows) (place : ℕ) (begun : begins_by rows place 0 ≡ true) where
  some : 0 < length rows
  some = some-begun rows place begun

  pub own-within : row_at rows place < length rows
  own-within = last_below-within (begins_by rows place) (length rows) some

  -- the place's row begins by it, and so does each one before it
  own-begins : (k : ℕ) → k ≤ row_at rows place → begins_by rows place k ≡ true
  own-begins k le =
      let i = row_at rows place in
      let here = begins_by-at rows place i a_row own-within in
      let low = leb-true (get_or rows i a_row).first_place place (sym here ∙ last_below-passes (begins_by rows place) (length rows) begun) in
      begins_by-at rows place k a_row (omega (arith, own-within))
      ∙ le-leb (get_or rows k a_row).first_place place (elim (cases_lt k i) [
        | inl before ↦ (let less = rises-at rows k i a_row rises before own-within in omega arith)
        | inr same ↦ (let e : k ≡ i = omega arith in let f = ap (λ n. (get_or rows n a_row).first_place) e in omega arith)
      ])

  -- the later ones begin behind it
  own-past : (k : ℕ) → row_at rows place < k → k < length rows → place < (get_or rows k a_row).first_place
  own-past k later there =
      leb-false (get_or rows k a_row).first_place place (sym (begins_by-at rows place k a_row there) ∙ last_below-later (begins_by rows place) (length rows) k later there)

  module _ (above below : ℕ) where
    abbrev pub from : ℕ
    from = row_at rows place - above

    abbrev pub to : ℕ
    to = min (length rows) (row_at rows place + below + 1)

    abbrev pub front : List DrawnRow
    front = take from rows

    abbrev pub seen : List DrawnRow
    seen = slice_range rows from to

    abbrev pub rest : List DrawnRow
    rest = drop to rows

    pub parts : rows ≡ front ++ (seen ++ rest)
    parts = sym (take-append-drop from rows) ∙ ap (λ l. front ++ l) (drop_split rows from to (omega (arith, own-within)))

    front-size : length front ≡ from
    front-size = length-take-le from rows (omega (arith, own-within))

    pub seen-size : length seen ≡ to - from
    seen-size = let left = length-drop from rows in length-take-le (to - from) (drop from rows) (omega (arith, own-within))

    -- a row of the window, among all rows
    pub seen-row : (k : ℕ) → k < length seen → slice_get seen k ≡ slice_get rows (from + k)
    seen-row k there =
        sym (slice_get-second front seen rest k a_row there) ∙ ap (λ l. slice_get l (length front + k)) (sym parts) ∙ ap (λ n. slice_get rows (n + k)) front-size

    pub seen-begun : begins_by seen place 0 ≡ true
    seen-begun =
        let e : from + 0 ≡ from = omega arith in
        ap (λ o. option_map_or (λ (r : DrawnRow). nat_le r.first_place place) o false) (seen-row 0 (omega (arith, seen-size, own-within)) ∙ ap (slice_get rows) e)
        ∙ own-begins from (omega arith)

    rest-past : All (λ (r : DrawnRow). place < r.first_place) rest
    rest-past k d there =
        let left = length-drop to rows in
        let same = get_or-drop to rows k d in
        let here = own-past (to + k) (omega (arith, own-within)) (omega arith) in
        subst (λ (r : DrawnRow). place < r.first_place) (sym (same ∙ any-default rows (to + k) d a_row (omega arith))) here
      where
        any-default : {X : Type 0} (xs : List X) (n : ℕ) (d e : X) → n < length xs → get_or xs n d ≡ get_or xs n e
        any-default [] n d e lt = absurd (omega arith)
        any-default (x ∷ xs) zero d e lt = refl
        any-default (x ∷ xs) (suc n) d e lt = any-default xs n d e (omega arith)

    seen-number : row_at rows place ≡ from + row_at seen place
    seen-number = ap (λ l. row_at l place) parts ∙ row_at-second front seen rest place seen-begun rest-past ∙ ap (λ n. n + row_at seen place) front-size

    pub has-seen : HasWindow front seen rest above below place
    has-seen = record {
      begun = seen-begun;
      past = rest-past;
      up = elim (cases_lt (row_at rows place) above) [
        | inl short ↦ inr (let e : from ≡ 0 = omega arith in ap (λ n. take n rows) e)
        | inr enough ↦ inl (omega (arith, seen-number))
      ];
      down = elim (cases_lt (length rows) (row_at rows place + below + 1)) [
        | inl short ↦ inr (drop_all to rows (omega arith))
        | inr enough ↦ inl (omega (arith, seen-number, seen-size))
      ];
    }

    pub seen-rises : FirstPlacesRise seen
    seen-rises = rises-front seen rest (rises-behind front (seen ++ rest) (subst FirstPlacesRise parts rises))

    -- a position in the place's row is one of the window
    pub position-seen : (position : Position) → position.row ≡ place → IsPositionOf rows position → IsPositionOf seen position
    position-seen position at stands =
        let within = row_at-within front seen rest place seen-begun rest-past in
        let here = seen-row (row_at seen place) within ∙ ap (slice_get rows) (sym seen-number) ∙ ap (λ n. slice_get rows (row_at rows n)) (sym at) ∙ stands.is in
        record { row = stands.row; is = ap (λ n. slice_get seen (row_at seen n)) at ∙ here; first = stands.first; gap = stands.gap }

    -- and one of the window is one of all rows
    pub position-whole : (position : Position) → IsPositionOf seen position → IsPositionOf rows position
    position-whole position stands =
        let k = row_at seen position.row in
        let here = sym (seen-row k (slice_get_within seen k stands.row stands.is)) ∙ stands.is in
        let number = ap (row_at rows) (sym stands.first) ∙ row_at-first rows (from + k) stands.row rises here in
        record { row = stands.row; is = ap (slice_get rows) number ∙ here; first = stands.first; gap = stands.gap }
