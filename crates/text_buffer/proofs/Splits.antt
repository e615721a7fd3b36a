-- Paragraphs of a text that gets others in the place of some.
use Rattle.std.proofs.Common.{◌≡◌, ℕ, Bool, true, false, cond, ◌-◌, ◌<◌, List, [], ◌∷◌, ◌++◌, length, take, drop, refl, sym, ap, subst, ◌∙◌, arith}
use Rattle.std.proofs.lemmas.List.{append-nil, length-drop, take-append-drop, drop_all}
use Rattle.std.proofs.lemmas.Str.{encodes-append, encodes-chars, IsUtf8-append, IsUtf8-nil, IsUtf8-string_bytes}
use Rattle.std.specs.List.{concat}
use Rattle.std.specs.Prelude.{encode_utf8_all, string_bytes}
use Rattle.std.specs.Str.{IsUtf8}
use Rattle.unicode_tables.specs.Tables.{TableValues, bidi_of}
use Rattle.paragraphs.specs.Paragraphs.{meets_at_cut}
use Rattle.paragraphs.proofs.Interface.{parts, front, front-is, parts-some, concat-parts, IsHalved-from, parts-put, parts-put_last, paragraph_points-parts}
use Rattle.text_buffer.specs.declared.piece.Piece.{Piece}
use Rattle.text_buffer.specs.declared.block.Block.{Block}
use Rattle.text_buffer.specs.Buffers.{IsSplit}
use Rattle.text_buffer.specs.Pieces.{points_of, points_in}
use Rattle.text_buffer.specs.Blocks.{pieces_in, texts_in}
use Rattle.text_buffer.specs.Stretches.{IsRemade, text_with}

-- ---- what is kept is text

utf8-joined : (x y : List ℕ) → IsUtf8 (encode_utf8_all x) → IsUtf8 (encode_utf8_all y) → IsUtf8 (encode_utf8_all (x ++ y))
utf8-joined x y u v = subst IsUtf8 (sym (encodes-append x y)) (IsUtf8-append (encode_utf8_all x) (encode_utf8_all y) u v)

module _ {K : Type 0} where
  utf8-piece : (p : Piece K) → IsUtf8 (encode_utf8_all (points_of p))
  utf8-piece p = let u = IsUtf8-string_bytes p.text in subst IsUtf8 (sym (encodes-chars (string_bytes p.text) u)) u

  pub utf8-pieces : (ps : List (Piece K)) → IsUtf8 (encode_utf8_all (concat (points_in ps)))
  utf8-pieces [] = IsUtf8-nil
  utf8-pieces (p ∷ ps) = utf8-joined (points_of p) (concat (points_in ps)) (utf8-piece p) (utf8-pieces ps)

  pub utf8-kept : (bs : List (Block K)) → IsUtf8 (encode_utf8_all (concat (texts_in bs)))
  utf8-kept bs = utf8-pieces (pieces_in bs)

-- ---- split, by the cuts from the front

pub split-parts : (tables : TableValues) (kept : List (List ℕ)) → IsUtf8 (encode_utf8_all (concat kept)) → IsSplit tables kept → kept ≡ parts (bidi_of tables) (concat kept)
split-parts tables kept u s = s ∙ paragraph_points-parts tables (concat kept) u

pub parts-split : (tables : TableValues) (kept : List (List ℕ)) → IsUtf8 (encode_utf8_all (concat kept)) → kept ≡ parts (bidi_of tables) (concat kept) → IsSplit tables kept
parts-split tables kept u is = is ∙ sym (paragraph_points-parts tables (concat kept) u)

-- ---- others in the place of a stretch

module _ (tables : TableValues) (kept : List (List ℕ)) (from to : ℕ) (points : List ℕ) (is : kept ≡ parts (bidi_of tables) (concat kept))
    (s : IsRemade tables kept from to points) where
  put-before_others : to < length kept → take from kept ++ (front (parts (bidi_of tables) points) ++ drop to kept)
      ≡ parts (bidi_of tables) (concat (take from kept) ++ (points ++ concat (drop to kept)))
  put-before_others more =
      let class = bidi_of tables in
      let low = IsHalved-from class kept (take from kept) (drop from kept) is (sym (take-append-drop from kept)) (let o = s.begun.order in omega (arith, length-drop from kept)) in
      let high = IsHalved-from class kept (take to kept) (drop to kept) is (sym (take-append-drop to kept)) (omega (arith, length-drop to kept)) in
      parts-put class (take from kept) (drop to kept) points low.before high.after s.begun.before (s.after more)

  put-at_end : to ≡ length kept → take from kept ++ (parts (bidi_of tables) points ++ drop to kept)
      ≡ parts (bidi_of tables) (concat (take from kept) ++ (points ++ concat (drop to kept)))
  put-at_end all =
      let class = bidi_of tables in
      let none : drop to kept ≡ [] = drop_all to kept (omega (arith, all)) in
      let low = IsHalved-from class kept (take from kept) (drop from kept) is (sym (take-append-drop from kept)) (let o = s.begun.order in omega (arith, all, length-drop from kept)) in
      let whole : points ++ concat (drop to kept) ≡ points = ap (λ t. points ++ concat t) none ∙ append-nil points in
      ap (λ t. take from kept ++ (parts class points ++ t)) none
      ∙ ap (λ t. take from kept ++ t) (append-nil (parts class points))
      ∙ parts-put_last class (take from kept) points low.before (ap (meets_at_cut class (concat (take from kept))) (sym whole) ∙ s.begun.before)
      ∙ ap (λ t. parts class (concat (take from kept) ++ t)) (sym whole)

  -- all paragraphs of the text, or all but the last where others follow
  pub put-stretch : (last : Bool) → (last ≡ true → to ≡ length kept) → (last ≡ false → to < length kept)
      → take from kept ++ (cond last (parts (bidi_of tables) points) (take (length (parts (bidi_of tables) points) - 1) (parts (bidi_of tables) points)) ++ drop to kept)
      ≡ parts (bidi_of tables) (text_with kept from to points)
  put-stretch true ends more = put-at_end (ends refl)
  put-stretch false ends more =
      ap (λ t. take from kept ++ (t ++ drop to kept)) (sym (front-is (parts (bidi_of tables) points))) ∙ put-before_others (more refl)

-- the text of what is kept then, and that it is split
pub text-of_parts : (tables : TableValues) (new : List (List ℕ)) (points : List ℕ) → new ≡ parts (bidi_of tables) points → concat new ≡ points
text-of_parts tables new points e = ap concat e ∙ concat-parts (bidi_of tables) points

pub split-of_parts : (tables : TableValues) (new : List (List ℕ)) (points : List ℕ) → new ≡ parts (bidi_of tables) points → new ≡ parts (bidi_of tables) (concat new)
split-of_parts tables new points e = e ∙ sym (ap (parts (bidi_of tables)) (text-of_parts tables new points e))

pub some-parts : (tables : TableValues) (new : List (List ℕ)) (points : List ℕ) → new ≡ parts (bidi_of tables) points → 0 < length new
some-parts tables new points e = let p = parts-some (bidi_of tables) points in let n = ap length (e ∙ p.2) in omega (arith, n)
