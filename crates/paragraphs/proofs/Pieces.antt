-- The pieces between the cuts of a text.
use Rattle.std.proofs.Common.{◌≡◌, ℕ, ◌+◌, ◌≤◌, Bool, true, false, cond, List, [], ◌∷◌, ◌++◌, map, length, drop, slice_range, refl, sym, ap, ◌∙◌, arith}
use Rattle.std.proofs.lemmas.List.{append-nil, take_rest}
use Rattle.std.proofs.lemmas.List.Elements.{All-nil, All-cons, All-same}
use Rattle.std.specs.List.{All, concat}
use Rattle.std.specs.Prelude.{encode_utf8_all}
use Rattle.std.specs.Str.{IsUtf8}
use Rattle.bg_types.specs.declared.class.Bidi.{Bidi}
use Rattle.paragraphs.specs.Text.{code_points}
use Rattle.paragraphs.specs.Paragraphs.{Paragraph, ends_paragraph, paragraph_between, pieces, StandsIn}
use Rattle.paragraphs.proofs.Cutting.{cuts_from, drop-step, step-le}
use Rattle.paragraphs.proofs.Slices.{encodes-slice, StandsIn-between}

-- the bytes of pieces, joined
abbrev pub joined : List Paragraph → List ℕ
joined ps = concat (map (λ (p : Paragraph). p.text) ps)

module _ (class : ℕ → Bidi) (points : List ℕ) where
  -- what comes of a code point that ends a paragraph, and of one that doesn't
  pub pieces-cut : (from place c : ℕ) (rest : List ℕ) → ends_paragraph class c rest ≡ true
      → pieces points from (cuts_from class place (c ∷ rest)) ≡ paragraph_between points from (place + 1) ∷ pieces points (place + 1) (cuts_from class (place + 1) rest)
  pieces-cut from place c rest e =
      ap (λ b. pieces points from (cond b ((place + 1) ∷ cuts_from class (place + 1) rest) (cuts_from class (place + 1) rest))) e

  pub pieces-no_cut : (from place c : ℕ) (rest : List ℕ) → ends_paragraph class c rest ≡ false
      → pieces points from (cuts_from class place (c ∷ rest)) ≡ pieces points from (cuts_from class (place + 1) rest)
  pieces-no_cut from place c rest e =
      ap (λ b. pieces points from (cond b ((place + 1) ∷ cuts_from class (place + 1) rest) (cuts_from class (place + 1) rest))) e

  joined-step : (b : Bool) (from place c : ℕ) (rest : List ℕ) → ends_paragraph class c rest ≡ b → from ≤ place
      → joined (pieces points (place + 1) (cuts_from class (place + 1) rest)) ≡ encode_utf8_all (drop (place + 1) points)
      → joined (pieces points from (cuts_from class (place + 1) rest)) ≡ encode_utf8_all (drop from points)
      → joined (pieces points from (cuts_from class place (c ∷ rest))) ≡ encode_utf8_all (drop from points)
  joined-step true from place c rest e le later same =
      ap joined (pieces-cut from place c rest e)
      ∙ ap (λ t. encode_utf8_all (slice_range points from (place + 1)) ++ t) later
      ∙ sym (encodes-slice points from (place + 1) (omega arith))
  joined-step false from place c rest e le later same = ap joined (pieces-no_cut from place c rest e) ∙ same

  -- the pieces make up the rest of the text
  pub joined-pieces : (from place : ℕ) (rest : List ℕ) → drop place points ≡ rest → from ≤ place
      → joined (pieces points from (cuts_from class place rest)) ≡ encode_utf8_all (drop from points)
  joined-pieces from place [] e le = append-nil _ ∙ ap encode_utf8_all (take_rest points from)
  joined-pieces from place (c ∷ rest) e le =
      let next = drop-step points rest place c e in
      joined-step (ends_paragraph class c rest) from place c rest refl le
      (joined-pieces (place + 1) (place + 1) rest next (omega arith))
      (joined-pieces from (place + 1) rest next (omega arith))

module _ (class : ℕ → Bidi) (text : List ℕ) (u : IsUtf8 text) where
  stand-step : (b : Bool) (from place c : ℕ) (rest : List ℕ) → ends_paragraph class c rest ≡ b → from ≤ place → place + 1 ≤ length (code_points text)
      → All (StandsIn text) (pieces (code_points text) (place + 1) (cuts_from class (place + 1) rest))
      → All (StandsIn text) (pieces (code_points text) from (cuts_from class (place + 1) rest))
      → All (StandsIn text) (pieces (code_points text) from (cuts_from class place (c ∷ rest)))
  stand-step true from place c rest e le within later same =
      All-same (StandsIn text) _ _ (pieces-cut class (code_points text) from place c rest e)
      (All-cons (StandsIn text) _ _ (StandsIn-between text u from (place + 1) (omega arith) within) later)
  stand-step false from place c rest e le within later same =
      All-same (StandsIn text) _ _ (pieces-no_cut class (code_points text) from place c rest e) same

  -- each piece stands in the text where it says
  pub pieces-stand : (from place : ℕ) (rest : List ℕ) → drop place (code_points text) ≡ rest → from ≤ place → place ≤ length (code_points text)
      → All (StandsIn text) (pieces (code_points text) from (cuts_from class place rest))
  pieces-stand from place [] e le within =
      All-cons (StandsIn text) (paragraph_between (code_points text) from (length (code_points text))) []
      (StandsIn-between text u from (length (code_points text)) (omega arith) (omega arith)) (All-nil (StandsIn text))
  pieces-stand from place (c ∷ rest) e le within =
      let next = drop-step (code_points text) rest place c e in
      let more = step-le (code_points text) rest place c e in
      stand-step (ends_paragraph class c rest) from place c rest refl le more
      (pieces-stand (place + 1) (place + 1) rest next (omega arith) more)
      (pieces-stand from (place + 1) rest next (omega arith) more)
