-- The clusters of a text are slices of it.
use Rattle.std.proofs.Common.{◌≡◌, ℕ, ◌+◌, ◌<◌, ◌≤◌, List, [], ◌∷◌, ◌++◌, map, length, take, drop, refl, sym, ap, subst, ◌∙◌, arith, append_assoc, length-append, length-take-le, take-append-drop}
use Rattle.std.proofs.lemmas.List.{length-map, get_or-map}
use Rattle.std.proofs.lemmas.List.Folds.{drop_split}
use Rattle.std.proofs.lemmas.List.Elements.{All-nil, All-cons, All-head, All-tail, All-append, All-weaker}
use Rattle.std.proofs.lemmas.Str.{IsUtf8-append, IsUtf8-drop, IsUtf8-take, IsUtf8-between, IsCharBoundary-at_seam}
use Rattle.std.specs.List.{All, concat}
use Rattle.std.specs.Str.{IsUtf8, IsCharBoundary}
use Rattle.paragraphs.proofs.Interface.{points-fit}
use Rattle.paragraphs.specs.Text.{code_points}
use Rattle.paragraphs.specs.Clusters.{clusters}
use Rattle.paragraphs.specs.Paragraphs.{Paragraph, StandsIn}
use Rattle.paragraphs.specs.declared.span.Span.{Span}
use Rattle.cell_grid.specs.LawsBelow.{LawsBelow}
use Rattle.cell_grid.specs.Spans.{span_at, spans_from, spans, shifted_span}
use Rattle.cell_grid.specs.Grids.{IsDrawable}
use Rattle.cell_grid.specs.Printable.{IsSlice}
use Rattle.cell_grid.proofs.Standing.{bytes, points, bytes-append, points-append, same_spans, start-boundary, end-boundary, points-all}

-- a slice of a text, with its code points
pub record IsSpan (text : List ℕ) (s : Span) : Type 0 where
  pub slice : IsSlice text s
  pub some : s.first_place < s.end_place
  pub within : s.end_place ≤ length (code_points text)

-- what holds of each image
pub All-unmap : {X Y : Type 0} (Q : Y → Type 0) (f : X → Y) (xs : List X) → All Q (map f xs) → All (λ x. Q (f x)) xs
All-unmap Q f xs h k d lt =
    let n = length-map xs f in
    let within : k < length (map f xs) = omega arith in
    subst Q (get_or-map f xs k d (f d) lt) (h k (f d) within)

module _ (text : List ℕ) where
  spans-are : (front back : List (List ℕ)) → concat (front ++ back) ≡ text → All IsUtf8 front → All IsUtf8 back → All (λ c. 0 < length (code_points c)) back
      → All (IsSpan text) (spans_from (bytes front) (points front) back)
  spans-are front [] joined uf ub some = All-nil (IsSpan text)
  spans-are front (c ∷ later) joined uf ub some =
      let u = All-head IsUtf8 c later ub in
      let ul = All-tail IsUtf8 c later ub in
      let one = All-cons IsUtf8 c [] u (All-nil IsUtf8) in
      let eb : bytes front + bytes (c ∷ []) ≡ bytes front + length c = omega arith in
      let start = start-boundary text front [] (c ∷ later) joined uf (All-nil IsUtf8) ub in
      let end = subst (IsCharBoundary text) eb (end-boundary text front (c ∷ []) later joined uf one ul) in
      let all = points-all text front (c ∷ []) later joined uf one ul in
      let first = All-head (λ (x : List ℕ). 0 < length (code_points x)) c later some in
      let next_bytes : bytes (front ++ c ∷ []) ≡ bytes front + length c = (let e = bytes-append front (c ∷ []) in omega arith) in
      let next_points : points (front ++ c ∷ []) ≡ points front + length (code_points c) = (let e = points-append front (c ∷ []) in omega arith) in
      All-cons (IsSpan text) (span_at (bytes front) (points front) c) (spans_from (bytes front + length c) (points front + length (code_points c)) later)
      (record { slice = record { order = omega arith; start = start; end = end }; some = omega arith; within = omega arith })
      (subst (All (IsSpan text)) (same_spans (bytes (front ++ c ∷ [])) (bytes front + length c) (points (front ++ c ∷ [])) (points front + length (code_points c)) later next_bytes next_points)
      (spans-are (front ++ c ∷ []) later (ap concat (append_assoc front (c ∷ []) later) ∙ joined) (All-append IsUtf8 front (c ∷ []) uf one) ul
      (All-tail (λ (x : List ℕ). 0 < length (code_points x)) c later some)))

twice : (cs : List (List ℕ)) → map length (map code_points cs) ≡ map (λ (c : List ℕ). length (code_points c)) cs
twice [] = refl
twice (c ∷ cs) = ap (λ l. length (code_points c) ∷ l) (twice cs)

module _ (below : LawsBelow) (text : List ℕ) (u : IsUtf8 text) where
  -- no cluster is without code points
  pub some-points : All (λ (c : List ℕ). 0 < length (code_points c)) (clusters text)
  some-points = All-unmap (λ n. 0 < n) (λ (c : List ℕ). length (code_points c)) (clusters text) (subst (All (λ n. 0 < n)) (twice (clusters text)) (below.sizes_some text u))

  -- each cluster of a text
  pub spans-slices : All (IsSpan text) (spans text)
  spans-slices = spans-are text [] (clusters text) (below.clusters_join text u) (All-nil IsUtf8) (below.clusters_utf8 text u) some-points

-- ---- in a text of which the paragraph is a part

module _ (text : List ℕ) (u : IsUtf8 text) (p : Paragraph) (h : StandsIn text p) where
  end : ℕ
  end = p.first_byte + length p.text

  pub paragraph-utf8 : IsUtf8 p.text
  unfolding end
  paragraph-utf8 = subst IsUtf8 (sym h.bytes) (IsUtf8-between text p.first_byte (p.first_byte + length p.text) u (omega arith) h.start h.end)

  cut : (k : ℕ) → k ≤ length p.text → text ≡ (take p.first_byte text ++ take k p.text) ++ (drop k p.text ++ drop end text)
  unfolding end
  cut k le =
      let order : p.first_byte ≤ p.first_byte + length p.text = omega arith in
      sym (take-append-drop p.first_byte text)
      ∙ ap (λ t. take p.first_byte text ++ t)
      (drop_split text p.first_byte (p.first_byte + length p.text) order
      ∙ ap (λ t. t ++ drop (p.first_byte + length p.text) text) (sym h.bytes ∙ sym (take-append-drop k p.text))
      ∙ append_assoc (take k p.text) (drop k p.text) (drop (p.first_byte + length p.text) text))
      ∙ sym (append_assoc (take p.first_byte text) (take k p.text) (drop k p.text ++ drop (p.first_byte + length p.text) text))

  pub boundary-in : (k : ℕ) → IsCharBoundary p.text k → IsCharBoundary text (k + p.first_byte)
  unfolding end
  boundary-in k b =
      let fits = h.start.0 in
      let a = length-append (take p.first_byte text) (take k p.text) in
      let n = length-take-le p.first_byte text fits in
      let m = length-take-le k p.text b.0 in
      let long : length (take p.first_byte text ++ take k p.text) ≡ k + p.first_byte = omega arith in
      subst (IsCharBoundary text) long
      (IsCharBoundary-at_seam text (take p.first_byte text ++ take k p.text) (drop k p.text ++ drop (p.first_byte + length p.text) text) (cut k b.0)
      (IsUtf8-append (drop k p.text) (drop (p.first_byte + length p.text) text) (IsUtf8-drop p.text k paragraph-utf8 b) (IsUtf8-drop text (p.first_byte + length p.text) u h.end)))

  -- a slice of the paragraph is one of the text
  pub slice-in : (s : Span) → IsSpan p.text s → IsSlice text (shifted_span p.first_byte p.first_place s)
  slice-in s is =
      let order = is.slice.order in
      record { order = omega arith; start = boundary-in s.first_byte is.slice.start; end = boundary-in s.end_byte is.slice.end }

  paragraph-places : p.first_place + length (code_points p.text) ≤ length text
  paragraph-places =
      let before = points-fit (take p.first_byte text) (IsUtf8-take text p.first_byte u h.start) in
      let n = length-take-le p.first_byte text h.start.0 in
      let own = points-fit p.text paragraph-utf8 in
      let place = h.place in
      let fits = h.end.0 in
      omega arith

  -- it may be drawn where the text may
  paragraph-drawable : length text ≤ 4_000_000 → IsDrawable p
  paragraph-drawable size = let places = paragraph-places in let fits = h.end.0 in record { utf8 = paragraph-utf8; bytes = omega arith; places = omega arith }

-- each paragraph of a text that may be drawn may be drawn
pub all-drawable : (text : List ℕ) → IsUtf8 text → length text ≤ 4_000_000 → (ps : List Paragraph) → All (StandsIn text) ps → All IsDrawable ps
all-drawable text u size ps stand = All-weaker (StandsIn text) IsDrawable (λ p h. paragraph-drawable text u p h size) ps stand
