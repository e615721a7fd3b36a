-- Clusters of a text that follow one another stand together in it.
use Rattle.std.proofs.Common.{◌≡◌, ℕ, ◌+◌, ◌-◌, ◌<◌, ◌≤◌, ◌⊎◌, List, ◌++◌, map, length, take, drop, sum, chars, slice_range, sym, ap, subst, ◌∙◌, arith, inl, inr, take-append-drop, take-add}
use Rattle.std.proofs.lemmas.List.{length-drop, length-take-le, nil_from_length}
use Rattle.std.proofs.lemmas.List.Folds.{drop_split}
use Rattle.std.proofs.lemmas.List.Elements.{All-take, All-drop}
use Rattle.std.specs.List.{All, concat, take-map, drop-map}
use Rattle.std.specs.Str.{IsUtf8, IsCharBoundary}
use Rattle.paragraphs.specs.Text.{code_points}
use Rattle.paragraphs.specs.Clusters.{clusters, cluster_sizes}
use Rattle.paragraphs.specs.declared.span.Span.{Span}
use Rattle.cell_grid.specs.LawsBelow.{LawsBelow}
use Rattle.cell_grid.specs.Spans.{spans_from, spans, extent}
use Rattle.cell_grid.specs.Outline.{StandIn}
use Rattle.cell_grid.proofs.Standing.{bytes, points, points-append, points-sum, spans-range, span_of, extent-spans, start-boundary, end-boundary, points-between, points-all}

stand-from : (text : List ℕ) (line : List Span) (sizes : List ℕ) (a b c d : ℕ) → extent line ≡ span_of a b c d → IsCharBoundary text a → IsCharBoundary text b → a ≤ b → c ≤ d
    → d ≤ length (code_points text) → chars (slice_range text a b) ≡ slice_range (code_points text) c d → All (λ size. 0 < size) sizes → sum sizes ≡ d - c → StandIn text line sizes
stand-from text line sizes a b c d e start end bytes_le places_le within same some whole =
    let ea = ap (λ (s : Span). s.first_byte) e in
    let eb = ap (λ (s : Span). s.end_byte) e in
    let ec = ap (λ (s : Span). s.first_place) e in
    let ed = ap (λ (s : Span). s.end_place) e in
    record {
      start = subst (IsCharBoundary text) (sym ea) start;
      end = subst (IsCharBoundary text) (sym eb) end;
      bytes = omega arith;
      places = omega arith;
      within = omega arith;
      points = ap (λ n. chars (slice_range text n (extent line).end_byte)) ea ∙ ap (λ n. chars (slice_range text a n)) eb ∙ same
          ∙ sym (ap (λ n. slice_range (code_points text) n (extent line).end_place) ec ∙ ap (λ n. slice_range (code_points text) c n) ed);
      some = some;
      whole = whole ∙ sym (ap (λ n. n - (extent line).first_place) ed ∙ ap (λ n. d - n) ec);
    }

-- a part of some clusters, with what stands before it
pub extent-part : (front mid : List (List ℕ)) → (0 < length mid) ⊎ ((length front ≡ 0) × (length mid ≡ 0))
    → extent (spans_from (0 + bytes front) (0 + points front) mid) ≡ span_of (bytes front) (bytes front + bytes mid) (points front) (points front + points mid)
extent-part front mid (inl some) =
    let a : 0 + bytes front ≡ bytes front = omega arith in
    let b : 0 + points front ≡ points front = omega arith in
    extent-spans (0 + bytes front) (0 + points front) mid some
    ∙ ap (λ n. span_of n (n + bytes mid) (0 + points front) (0 + points front + points mid)) a
    ∙ ap (λ n. span_of (bytes front) (bytes front + bytes mid) n (n + points mid)) b
extent-part front mid (inr none) =
    let f = nil_from_length front none.0 in
    let m = nil_from_length mid none.1 in
    ap (λ l. extent (spans_from (0 + bytes front) (0 + points front) l)) m
    ∙ sym (ap (λ l. span_of (bytes front) (bytes front + bytes l) (points front) (points front + points l)) m
    ∙ ap (λ l. span_of (bytes l) (bytes l + 0) (points l) (points l + 0)) f)

pub slice-map : {X Y : Type 0} (xs : List X) (f : X → Y) (i j : ℕ) → slice_range (map f xs) i j ≡ map f (slice_range xs i j)
slice-map xs f i j = ap (take (j - i)) (drop-map f i xs) ∙ take-map f (j - i) (drop i xs)

pub length-slice : {X : Type 0} (xs : List X) (i j : ℕ) → i ≤ j → j ≤ length xs → length (slice_range xs i j) ≡ j - i
length-slice xs i j le within = let d = length-drop i xs in length-take-le (j - i) (drop i xs) (omega arith)

module _ (below : LawsBelow) (text : List ℕ) (u : IsUtf8 text) (i j : ℕ) (le : i ≤ j) (within : j ≤ length (clusters text)) where
  pub front : List (List ℕ)
  front = take i (clusters text)

  pub mid : List (List ℕ)
  mid = slice_range (clusters text) i j

  back : List (List ℕ)
  back = drop j (clusters text)

  joined : concat (front ++ (mid ++ back)) ≡ text
  unfolding front mid back
  joined =
      ap (λ l. concat (take i (clusters text) ++ l)) (sym (drop_split (clusters text) i j le))
      ∙ ap concat (take-append-drop i (clusters text)) ∙ below.clusters_join text u

  uf : All IsUtf8 front
  unfolding front
  uf = All-take IsUtf8 i (clusters text) (below.clusters_utf8 text u)

  um : All IsUtf8 mid
  unfolding mid
  um = All-take IsUtf8 (j - i) (drop i (clusters text)) (All-drop IsUtf8 i (clusters text) (below.clusters_utf8 text u))

  ub : All IsUtf8 back
  unfolding back
  ub = All-drop IsUtf8 j (clusters text) (below.clusters_utf8 text u)

  part-extent : (i < j) ⊎ ((length (clusters text) ≡ 0) × (i ≡ 0) × (j ≡ 0)) → extent (slice_range (spans text) i j) ≡ span_of (bytes front) (bytes front + bytes mid) (points front) (points front + points mid)
  unfolding front mid
  part-extent some =
      let n = length-slice (clusters text) i j le within in
      let which : (0 < length (slice_range (clusters text) i j)) ⊎ ((length (take i (clusters text)) ≡ 0) × (length (slice_range (clusters text) i j) ≡ 0)) = elim some [
        | inl lt ↦ inl (omega arith)
        | inr none ↦ inr (let i_is = none.1 in ap (λ k. length (take k (clusters text))) i_is, let i_is = none.1 in let j_is = none.2 in omega arith)
      ] in
      ap extent (spans-range i j 0 0 (clusters text)) ∙ extent-part (take i (clusters text)) (slice_range (clusters text) i j) which

  -- the places of a part
  pub part-first : (i < j) ⊎ ((length (clusters text) ≡ 0) × (i ≡ 0) × (j ≡ 0)) → (extent (slice_range (spans text) i j)).first_place ≡ points (take i (clusters text))
  unfolding front
  part-first some = ap (λ (s : Span). s.first_place) (part-extent some)

  pub part-last : (i < j) ⊎ ((length (clusters text) ≡ 0) × (i ≡ 0) × (j ≡ 0)) → (extent (slice_range (spans text) i j)).end_place ≡ points (take j (clusters text))
  unfolding front mid
  part-last some =
      let cs = clusters text in
      let k : i + (j - i) ≡ j = omega arith in
      ap (λ (s : Span). s.end_place) (part-extent some) ∙ sym (points-append (take i cs) (slice_range cs i j))
      ∙ ap points (sym (take-add i (j - i) cs) ∙ ap (λ n. take n cs) k)

  sizes-part : slice_range (cluster_sizes text) i j ≡ map length (map code_points mid)
  unfolding mid
  sizes-part = slice-map (map code_points (clusters text)) length i j ∙ ap (map length) (slice-map (clusters text) code_points i j)

  pub part-stands : (i < j) ⊎ ((length (clusters text) ≡ 0) × (i ≡ 0) × (j ≡ 0)) → StandIn text (slice_range (spans text) i j) (slice_range (cluster_sizes text) i j)
  part-stands some =
      let all = points-all text front mid back joined uf um ub in
      let between = points-between text front mid back joined uf um ub in
      let total = ap sum sizes-part ∙ points-sum mid in
      stand-from text (slice_range (spans text) i j) (slice_range (cluster_sizes text) i j) (bytes front) (bytes front + bytes mid) (points front) (points front + points mid)
      (part-extent some)
      (start-boundary text front mid back joined uf um ub) (end-boundary text front mid back joined uf um ub)
      (omega arith) (omega arith) (omega arith) between
      (All-take (λ size. 0 < size) (j - i) (drop i (cluster_sizes text)) (All-drop (λ size. 0 < size) i (cluster_sizes text) (below.sizes_some text u)))
      (omega arith)
