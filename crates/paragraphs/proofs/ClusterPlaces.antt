-- The clusters of a text, and the places where they stand.
use Rattle.std.proofs.Common.{◌≡◌, ℕ, zero, suc, ◌+◌, ◌<◌, true, List, [], ◌∷◌, ◌++◌, map, length, get_or, take, sum, sym, ap, subst, ◌∙◌, arith, add-one}
use Rattle.std.proofs.lemmas.List.Concat.{concat_is, length-flat_map}
use Rattle.std.proofs.lemmas.List.Elements.{All-nil, All-cons, All-head, All-tail, All-map, All-weaker, All-same}
use Rattle.std.proofs.lemmas.List.Sums.{sum-map, sum_by-cons}
use Rattle.std.proofs.lemmas.Str.{chars-nil, chars-append, encodes-chars, IsUtf8-between}
use Rattle.std.specs.List.{All, concat}
use Rattle.std.specs.Prelude.{encode_utf8_all}
use Rattle.std.specs.Str.{IsUtf8}
use Rattle.unicode_segmentation.specs.Grapheme.{is_grapheme_break}
use Rattle.unicode_segmentation.specs.Segments.{with_offsets}
use Rattle.unicode_segmentation.proofs.SegmentsLemmas.{AllPieces, IsPieceOf, All-IsPieceOf, concat-segments, map-with_offsets, segments_nonempty}
use Rattle.paragraphs.specs.Text.{code_points}
use Rattle.paragraphs.specs.Clusters.{clusters, cluster_code_points, cluster_sizes}
use Rattle.paragraphs.specs.declared.span.Span.{Span}
use Rattle.paragraphs.specs.Spans.{spans_from, spans}

pub concat-clusters : (text : List ℕ) → IsUtf8 text → concat (clusters text) ≡ text
concat-clusters text u = concat-segments (is_grapheme_break true) text u

IsUtf8-piece : (text : List ℕ) → IsUtf8 text → (x : ℕ × List ℕ) → IsPieceOf text x → IsUtf8 x.1
IsUtf8-piece text u x h =
    subst IsUtf8 (sym h.bytes) (IsUtf8-between text x.0 (x.0 + length x.1) u (omega arith) h.start h.end)

-- each cluster is text
pub clusters-utf8 : (text : List ℕ) → IsUtf8 text → All IsUtf8 (clusters text)
clusters-utf8 text u =
    All-same IsUtf8 _ _ (sym (map-with_offsets 0 (clusters text)))
    (All-map IsUtf8 (λ (x : ℕ × List ℕ). x.1) (with_offsets 0 (clusters text))
    (All-weaker (IsPieceOf text) (λ (x : ℕ × List ℕ). IsUtf8 x.1) (IsUtf8-piece text u) (with_offsets 0 (clusters text))
    (All-IsPieceOf (is_grapheme_break true) text u)))

concat-code_points : (pieces : List (List ℕ)) → All IsUtf8 pieces → concat (map code_points pieces) ≡ code_points (concat pieces)
concat-code_points [] h = sym chars-nil
concat-code_points (p ∷ pieces) h =
    ap (λ t. code_points p ++ t) (concat-code_points pieces (All-tail IsUtf8 p pieces h)) ∙ sym (chars-append p (concat pieces) (All-head IsUtf8 p pieces h))

-- the clusters' code points are those of the text
pub concat-cluster_code_points : (text : List ℕ) → IsUtf8 text → concat (cluster_code_points text) ≡ code_points text
concat-cluster_code_points text u = concat-code_points (clusters text) (clusters-utf8 text u) ∙ ap code_points (concat-clusters text u)

length-concat : (pieces : List (List ℕ)) → length (concat pieces) ≡ sum (map length pieces)
length-concat pieces = ap length (concat_is pieces) ∙ length-flat_map (λ (x : List ℕ). x) pieces ∙ sym (sum-map length pieces)

pub sum-cluster_sizes : (text : List ℕ) → IsUtf8 text → sum (cluster_sizes text) ≡ length (code_points text)
sum-cluster_sizes text u = sym (length-concat (cluster_code_points text)) ∙ ap length (concat-cluster_code_points text u)

some_from_encodes : (points bytes : List ℕ) → encode_utf8_all points ≡ bytes → 0 < length bytes → 0 < length points
some_from_encodes [] bytes e h = let n = ap length e in omega arith
some_from_encodes (c ∷ points) bytes e h = omega arith

some-pieces : (pieces : List (List ℕ)) → AllPieces (λ p. 0 < length p) pieces → All (λ p. 0 < length p) pieces
some-pieces [] h = All-nil (λ p. 0 < length p)
some-pieces (p ∷ pieces) h = All-cons (λ p. 0 < length p) p pieces h.0 (some-pieces pieces h.1)

-- no cluster is empty
pub some-clusters : (text : List ℕ) → All (λ cluster. 0 < length cluster) (clusters text)
some-clusters text = some-pieces (clusters text) (segments_nonempty (is_grapheme_break true) text)

some-code_points : (pieces : List (List ℕ)) → All IsUtf8 pieces → All (λ p. 0 < length p) pieces → All (λ p. 0 < length (code_points p)) pieces
some-code_points [] u h = All-nil (λ p. 0 < length (code_points p))
some-code_points (p ∷ pieces) u h =
    All-cons (λ p. 0 < length (code_points p)) p pieces
    (some_from_encodes (code_points p) p (encodes-chars p (All-head IsUtf8 p pieces u)) (All-head (λ p. 0 < length p) p pieces h))
    (some-code_points pieces (All-tail IsUtf8 p pieces u) (All-tail (λ p. 0 < length p) p pieces h))

pub some-cluster_sizes : (text : List ℕ) → IsUtf8 text → All (λ size. 0 < size) (cluster_sizes text)
some-cluster_sizes text u =
    All-map (λ size. 0 < size) length (cluster_code_points text)
    (All-map (λ (points : List ℕ). 0 < length points) code_points (clusters text) (some-code_points (clusters text) (clusters-utf8 text u) (some-clusters text)))

first_place-spans_from : (byte place k : ℕ) (cs : List (List ℕ)) → k < length (map length (map code_points cs))
    → get_or (map (λ (s : Span). s.first_place) (spans_from byte place cs)) k 0 ≡ place + sum (take k (map length (map code_points cs)))
first_place-spans_from byte place k [] lt = absurd (omega arith)
first_place-spans_from byte place zero (c ∷ cs) lt = omega arith
first_place-spans_from byte place (suc k) (c ∷ cs) lt =
    let size = length (code_points c) in
    let fits : k < length (map length (map code_points cs)) = omega arith in
    let later = first_place-spans_from (byte + length c) (place + size) k cs fits in
    let more = sum_by-cons (λ (x : ℕ). x) size (take k (map length (map code_points cs))) in
    omega (arith, later, more)

-- a cluster stands after the code points of all earlier ones
pub first_place-spans : (text : List ℕ) (k : ℕ) → k < length (cluster_sizes text)
    → get_or (map (λ (s : Span). s.first_place) (spans text)) k 0 ≡ sum (take k (cluster_sizes text))
first_place-spans text k lt = let e = first_place-spans_from 0 0 k (clusters text) lt in omega (arith, e)

end_place-spans_from : (byte place k : ℕ) (cs : List (List ℕ)) → k < length (map length (map code_points cs))
    → get_or (map (λ (s : Span). s.end_place) (spans_from byte place cs)) k 0 ≡ place + sum (take (suc k) (map length (map code_points cs)))
end_place-spans_from byte place k [] lt = absurd (omega arith)
end_place-spans_from byte place zero (c ∷ cs) lt =
    let size = length (code_points c) in
    let more = sum_by-cons (λ (x : ℕ). x) size (take 0 (map length (map code_points cs))) in
    omega (arith, more)
end_place-spans_from byte place (suc k) (c ∷ cs) lt =
    let size = length (code_points c) in
    let fits : k < length (map length (map code_points cs)) = omega arith in
    let later = end_place-spans_from (byte + length c) (place + size) k cs fits in
    let more = sum_by-cons (λ (x : ℕ). x) size (take (suc k) (map length (map code_points cs))) in
    omega (arith, later, more)

-- and it ends after its own
pub end_place-spans : (text : List ℕ) (k : ℕ) → k < length (cluster_sizes text)
    → get_or (map (λ (s : Span). s.end_place) (spans text)) k 0 ≡ sum (take (k + 1) (cluster_sizes text))
end_place-spans text k lt =
    let e = end_place-spans_from 0 0 k (clusters text) lt in
    rw add-one (omega (arith, e))
