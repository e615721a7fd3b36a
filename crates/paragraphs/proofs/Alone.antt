-- The first character of a text whose code points are known.
use Rattle.std.proofs.Common.{◌≡◌, ℕ, ◌+◌, ◌<◌, ◌≤◌, length, true, Some, List, [], ◌∷◌, ◌++◌, take, drop, sym, ap, ap₂, subst, ◌∙◌, arith}
use Rattle.std.proofs.lemmas.List.{append-nil, drop_at}
use Rattle.std.proofs.lemmas.Str.{chars_past_char, encodes-chars, length-encode, IsUtf8-past_char, IsCharBoundary-at_seam}
use Rattle.std.specs.Char.{len_utf8}
use Rattle.std.specs.List.{concat, slice_get}
use Rattle.std.specs.Prelude.{encode_utf8, encode_utf8_all}
use Rattle.std.specs.Str.{IsUtf8, IsCharBoundary}
use Rattle.unicode_segmentation.specs.Grapheme.{is_grapheme_break}
use Rattle.paragraphs.specs.Text.{code_points}
use Rattle.paragraphs.specs.Clusters.{clusters}
use Rattle.paragraphs.proofs.Afresh.{clusters-alone}
use Rattle.paragraphs.proofs.ClusterPlaces.{concat-clusters}
use Rattle.paragraphs.proofs.Slices.{IsCharBoundary-on}

-- the code points of clusters are those of their text
pub points-of_clusters : (text points : List ℕ) (left : List (List ℕ)) → IsUtf8 text → left ≡ clusters text → points ≡ code_points (concat left) → points ≡ code_points text
points-of_clusters text points left u all e = e ∙ ap code_points (ap concat all ∙ concat-clusters text u)

-- the first code point
pub points-first : (points : List ℕ) (c : ℕ) → Some c ≡ slice_get points 0 → points ≡ c ∷ drop 1 points
points-first [] c first = absurd (cc first)
points-first (d ∷ points) c first = let same : d ≡ c = cc first in ap (λ x. x ∷ points) same

pub points-some : (points : List ℕ) (c : ℕ) → Some c ≡ slice_get points 0 → 0 < length points
points-some [] c first = absurd (cc first)
points-some (d ∷ points) c first = omega arith

module _ (text points : List ℕ) (c : ℕ) (u : IsUtf8 text) (all : points ≡ code_points text) (first : Some c ≡ slice_get points 0) where
  split : text ≡ encode_utf8 c ++ encode_utf8_all (drop 1 points)
  split = sym (encodes-chars text u) ∙ ap encode_utf8_all (sym all ∙ points-first points c first)

  -- a text may be cut after it
  IsCharBoundary-past : (n : ℕ) → n ≡ len_utf8 c → IsCharBoundary text n
  IsCharBoundary-past n e =
      subst (IsCharBoundary text) (length-encode c ∙ sym e)
      (IsCharBoundary-at_seam text (encode_utf8 c) (encode_utf8_all (drop 1 points)) split (IsUtf8-past_char text _ c u split))

  module _ (n : ℕ) (rest : List ℕ) (e : n ≡ len_utf8 c) (cut : rest ≡ drop n text) where
    split-rest : text ≡ encode_utf8 c ++ rest
    split-rest =
        split ∙ ap (λ t. encode_utf8 c ++ t)
        (sym (cut ∙ ap (drop n) split ∙ drop_at (encode_utf8 c) (encode_utf8_all (drop 1 points)) n (length-encode c ∙ sym e)))

    points-rest : code_points text ≡ c ∷ code_points rest
    points-rest = chars_past_char text rest c u split-rest

    points-past : drop 1 points ≡ code_points rest
    points-past = ap (drop 1) (all ∙ points-rest)

    -- it stands alone where a cluster ends after it
    pub clusters-past : is_grapheme_break true (take 1 points) (drop 1 points) ≡ true → clusters text ≡ encode_utf8 c ∷ clusters rest
    clusters-past broken =
        clusters-alone text rest c points-rest
        (ap₂ (is_grapheme_break true) (sym (ap (take 1) (points-first points c first))) (sym points-past) ∙ broken)
        ∙ ap (λ x. x ∷ clusters rest) (append-nil (encode_utf8 c))

-- a text may be cut after the first character of what is left of it from a byte on
pub IsCharBoundary-past_first : (text : List ℕ) (byte : ℕ) (rest points : List ℕ) (left : List (List ℕ)) (c n : ℕ) → byte ≤ length text → rest ≡ drop byte text → IsUtf8 rest
    → left ≡ clusters rest → points ≡ code_points (concat left) → Some c ≡ slice_get points 0 → n ≡ len_utf8 c → IsCharBoundary text (byte + n)
IsCharBoundary-past_first text byte rest points left c n within from u own all first e =
    IsCharBoundary-on text byte rest n within from (IsCharBoundary-past rest points c u (points-of_clusters rest points left u own all) first n e)
