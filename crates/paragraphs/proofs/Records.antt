-- Paragraphs by their code points.
use Rattle.std.proofs.Common.{◌≡◌, ℕ, ◌+◌, ◌≤◌, true, false, cond, List, [], ◌∷◌, ◌++◌, map, length, take, drop, get_or, slice_range, ◌<◌, zero, suc, refl, sym, ap, ap₂, subst, ◌∙◌, arith}
use Rattle.std.proofs.lemmas.List.{append_assoc, length-append, take_rest, drop_more, drop_at}
use Rattle.std.proofs.lemmas.List.Edits.{between_none, between_more}
use Rattle.std.proofs.lemmas.List.Folds.{drop_split}
use Rattle.std.proofs.lemmas.Str.{chars_from_encodes, encodes-chars, encodes-append}
use Rattle.std.specs.List.{concat}
use Rattle.std.specs.Prelude.{encode_utf8_all, Some, slice_get}
use Rattle.std.specs.Str.{IsUtf8}
use Rattle.bg_types.specs.declared.class.Bidi.{Bidi}
use Rattle.unicode_tables.specs.Tables.{TableValues, bidi_of}
use Rattle.paragraphs.specs.Text.{code_points}
use Rattle.paragraphs.specs.Paragraphs.{Paragraph, ends_paragraph, pieces, paragraphs, paragraph_points, ParagraphsFollow}
use Rattle.paragraphs.proofs.Slices.{IsUtf8-encodes_drop}
use Rattle.unicode_segmentation.proofs.TextLemmas.{IsUtf8-before}
use Rattle.paragraphs.proofs.Cutting.{cuts_from, cuts-is, drop-step, step-le}
use Rattle.paragraphs.proofs.Pieces.{pieces-cut, pieces-no_cut}
use Rattle.paragraphs.proofs.Following.{follow-paragraphs}
use Rattle.paragraphs.proofs.Parts.{parts, begun, parts-some, concat-parts}

-- these code points in front of the first of these
glued : List ℕ → List (List ℕ) → List (List ℕ)
glued front [] = front ∷ []
glued front (p ∷ ps) = (front ++ p) ∷ ps

texts_of : List Paragraph → List (List ℕ)
texts_of ps = map (λ (p : Paragraph). p.text) ps

glued-begun : (front : List ℕ) (c : ℕ) (ps : List (List ℕ)) → glued front (begun c ps) ≡ glued (front ++ c ∷ []) ps
unfolding glued
glued-begun front c [] = refl
glued-begun front c (p ∷ ps) = ap (λ t. t ∷ ps) (sym (append_assoc front (c ∷ []) p))

module _ (class : ℕ → Bidi) (points : List ℕ) where
  glued-none : (rest : List ℕ) → glued [] (parts class rest) ≡ parts class rest
  unfolding glued
  glued-none rest = let s = parts-some class rest in ap (glued []) s.2 ∙ sym s.2

  slice-more : (from place c : ℕ) (rest : List ℕ) → drop place points ≡ c ∷ rest → from ≤ place → slice_range points from (place + 1) ≡ slice_range points from place ++ c ∷ []
  slice-more from place c rest e le =
      let within = step-le points rest place c e in
      let here = ap (λ (t : List ℕ). get_or t 0 0) (sym (drop_more points place 0 (omega arith)) ∙ e) in
      between_more points from place 0 le (omega arith) ∙ ap (λ x. slice_range points from place ++ x ∷ []) here

  parts-cut : (c : ℕ) (rest : List ℕ) → ends_paragraph class c rest ≡ true → parts class (c ∷ rest) ≡ (c ∷ []) ∷ parts class rest
  parts-cut c rest e = ap (λ b. cond b ((c ∷ []) ∷ parts class rest) (begun c (parts class rest))) e

  parts-no_cut : (c : ℕ) (rest : List ℕ) → ends_paragraph class c rest ≡ false → parts class (c ∷ rest) ≡ begun c (parts class rest)
  parts-no_cut c rest e = ap (λ b. cond b ((c ∷ []) ∷ parts class rest) (begun c (parts class rest))) e

  texts-pieces : (from place : ℕ) (rest : List ℕ) → drop place points ≡ rest → from ≤ place
      → texts_of (pieces points from (cuts_from class place rest)) ≡ map encode_utf8_all (glued (slice_range points from place) (parts class rest))
  unfolding texts_of glued
  texts-pieces from place [] e le =
      ap (λ t. encode_utf8_all t ∷ []) (take_rest points from ∙ drop_split points from place le ∙ ap (λ t. slice_range points from place ++ t) e)
  texts-pieces from place (c ∷ rest) e le =
      let next = drop-step points rest place c e in
      let longer = slice-more from place c rest e le in
      elim (ends_paragraph class c rest) as (λ b. ends_paragraph class c rest ≡ b
      → texts_of (pieces points from (cuts_from class place (c ∷ rest))) ≡ map encode_utf8_all (glued (slice_range points from place) (parts class (c ∷ rest)))) [
        | true ↦ λ b.
            ap texts_of (pieces-cut class points from place c rest b)
            ∙ ap (λ t. encode_utf8_all (slice_range points from (place + 1)) ∷ t) (texts-pieces (place + 1) (place + 1) rest next (omega arith)
            ∙ ap (λ t. map encode_utf8_all (glued t (parts class rest))) (between_none points (place + 1)) ∙ ap (map encode_utf8_all) (glued-none rest))
            ∙ ap (λ t. encode_utf8_all t ∷ map encode_utf8_all (parts class rest)) longer
            ∙ sym (ap (λ t. map encode_utf8_all (glued (slice_range points from place) t)) (parts-cut c rest b))
        | false ↦ λ b.
            ap texts_of (pieces-no_cut class points from place c rest b)
            ∙ texts-pieces from (place + 1) rest next (omega arith)
            ∙ ap (λ t. map encode_utf8_all (glued t (parts class rest))) longer
            ∙ sym (ap (map encode_utf8_all) (glued-begun (slice_range points from place) c (parts class rest)))
            ∙ sym (ap (λ t. map encode_utf8_all (glued (slice_range points from place) t)) (parts-no_cut c rest b))
      ] refl

-- the texts of the paragraphs, by their code points
pub texts-parts : (tables : TableValues) (text : List ℕ) → map (λ (p : Paragraph). p.text) (paragraphs tables text) ≡ map encode_utf8_all (parts (bidi_of tables) (code_points text))
unfolding texts_of
texts-parts tables text =
    let points = code_points text in
    let class = bidi_of tables in
    ap (λ cs. texts_of (pieces points 0 cs)) (cuts-is class points)
    ∙ texts-pieces class points 0 0 points refl (omega arith)
    ∙ ap (λ t. map encode_utf8_all (glued t (parts class points))) (between_none points 0)
    ∙ ap (map encode_utf8_all) (glued-none class points points)

-- ---- of a text, by its code points

IsUtf8-later : (p x : List ℕ) → IsUtf8 (encode_utf8_all (p ++ x)) → IsUtf8 (encode_utf8_all x)
IsUtf8-later p x u = subst (λ t. IsUtf8 (encode_utf8_all t)) (drop_at p x (length p) refl) (IsUtf8-encodes_drop (length p) (p ++ x) u)

IsUtf8-first : (p x : List ℕ) → IsUtf8 (encode_utf8_all (p ++ x)) → IsUtf8 (encode_utf8_all p)
IsUtf8-first p x u = IsUtf8-before (encode_utf8_all (p ++ x)) (encode_utf8_all p) (encode_utf8_all x) u (IsUtf8-later p x u) (encodes-append p x)

pub points-encodes : (points : List ℕ) → IsUtf8 (encode_utf8_all points) → code_points (encode_utf8_all points) ≡ points
points-encodes points u = sym (chars_from_encodes points (encode_utf8_all points) u refl)

decoded : (ps : List (List ℕ)) → IsUtf8 (encode_utf8_all (concat ps)) → map (λ p. code_points (encode_utf8_all p)) ps ≡ ps
decoded [] u = refl
decoded (p ∷ ps) u = ap₂ (λ x xs. x ∷ xs) (points-encodes p (IsUtf8-first p (concat ps) u)) (decoded ps (IsUtf8-later p (concat ps) u))

map-of-texts : (ps : List Paragraph) → map (λ (p : Paragraph). code_points p.text) ps ≡ map code_points (map (λ (p : Paragraph). p.text) ps)
map-of-texts [] = refl
map-of-texts (p ∷ ps) = ap (λ t. code_points p.text ∷ t) (map-of-texts ps)

map-of-encodes : (ps : List (List ℕ)) → map code_points (map encode_utf8_all ps) ≡ map (λ p. code_points (encode_utf8_all p)) ps
map-of-encodes [] = refl
map-of-encodes (p ∷ ps) = ap (λ t. code_points (encode_utf8_all p) ∷ t) (map-of-encodes ps)

-- the code points of the paragraphs
pub points-parts : (tables : TableValues) (text : List ℕ) → IsUtf8 text → map (λ (p : Paragraph). code_points p.text) (paragraphs tables text) ≡ parts (bidi_of tables) (code_points text)
points-parts tables text u =
    let ps = parts (bidi_of tables) (code_points text) in
    let same : encode_utf8_all (concat ps) ≡ text = ap encode_utf8_all (concat-parts (bidi_of tables) (code_points text)) ∙ encodes-chars text u in
    map-of-texts (paragraphs tables text) ∙ ap (map code_points) (texts-parts tables text) ∙ map-of-encodes ps ∙ decoded ps (subst IsUtf8 (sym same) u)

pub paragraph_points-parts : (tables : TableValues) (points : List ℕ) → IsUtf8 (encode_utf8_all points) → paragraph_points tables points ≡ parts (bidi_of tables) points
paragraph_points-parts tables points u = points-parts tables (encode_utf8_all points) u ∙ ap (parts (bidi_of tables)) (points-encodes points u)

-- paragraphs with these code points, the first of them after so many bytes and code points
abbrev pub records : (byte place : ℕ) → List (List ℕ) → List Paragraph
records byte place [] = []
records byte place (p ∷ ps) =
    record { text = encode_utf8_all p; first_byte = byte; first_place = place } ∷ records (byte + length (encode_utf8_all p)) (place + length p) ps

records-is : (byte place : ℕ) (ps : List Paragraph) (qs : List (List ℕ)) → ParagraphsFollow byte place ps
    → map (λ (p : Paragraph). p.text) ps ≡ map encode_utf8_all qs → map (λ q. code_points (encode_utf8_all q)) qs ≡ qs → ps ≡ records byte place qs
records-is byte place [] [] f e d = refl
records-is byte place [] (q ∷ qs) f e d = absurd (cc)
records-is byte place (p ∷ ps) [] f e d = absurd (cc)
records-is byte place (p ∷ ps) (q ∷ qs) f e d =
    let text : p.text ≡ encode_utf8_all q = cc in
    let points : code_points (encode_utf8_all q) ≡ q = cc in
    let later : map (λ (r : Paragraph). r.text) ps ≡ map encode_utf8_all qs = cc in
    let decodes : map (λ r. code_points (encode_utf8_all r)) qs ≡ qs = cc in
    let first : p ≡ record { text = encode_utf8_all q; first_byte = byte; first_place = place } =
    ap₂ (λ t b. let r : Paragraph = record { text = t; first_byte = b; first_place = p.first_place } in r) text f.0
    ∙ ap (λ n. let r : Paragraph = record { text = encode_utf8_all q; first_byte = byte; first_place = n } in r) f.1 in
    let size = ap (λ t. place + length t) (ap code_points text ∙ points) in
    let follow = subst (λ n. ParagraphsFollow (byte + length (encode_utf8_all q)) n ps) size
    (subst (λ n. ParagraphsFollow n (place + length (code_points p.text)) ps) (ap (λ t. byte + length t) text) f.2) in
    ap₂ (λ x xs. x ∷ xs) first (records-is (byte + length (encode_utf8_all q)) (place + length q) ps qs follow later decodes)

bytes_more : (p x : List ℕ) (byte : ℕ) → byte + length (encode_utf8_all p) + length (encode_utf8_all x) ≡ byte + length (encode_utf8_all (p ++ x))
bytes_more p x byte = omega (arith, ap length (encodes-append p x), length-append (encode_utf8_all p) (encode_utf8_all x))

records-at : (byte place : ℕ) (ps : List (List ℕ)) (i : ℕ) → i < length ps
    → slice_get (records byte place ps) i ≡ Some (record {
      text = encode_utf8_all (get_or ps i []);
      first_byte = byte + length (encode_utf8_all (concat (take i ps)));
      first_place = place + length (concat (take i ps));
    })
records-at byte place [] i h = absurd (omega arith)
records-at byte place (p ∷ ps) zero h = ap₂ (λ b n. Some (record { text = encode_utf8_all p; first_byte = b; first_place = n })) (omega arith) (omega arith)
records-at byte place (p ∷ ps) (suc i) h =
    records-at (byte + length (encode_utf8_all p)) (place + length p) ps i (omega arith)
    ∙ ap₂ (λ b n. Some (record { text = encode_utf8_all (get_or ps i []); first_byte = b; first_place = n }))
    (bytes_more p (concat (take i ps)) byte) (omega (arith, length-append p (concat (take i ps))))

-- paragraph i of a text, by its code points and those before it
pub paragraph-at : (tables : TableValues) (kept : List (List ℕ)) (i : ℕ) → IsUtf8 (encode_utf8_all (concat kept)) → kept ≡ parts (bidi_of tables) (concat kept) → i < length kept
    → slice_get (paragraphs tables (encode_utf8_all (concat kept))) i ≡ Some (record {
      text = encode_utf8_all (get_or kept i []);
      first_byte = length (encode_utf8_all (concat (take i kept)));
      first_place = length (concat (take i kept));
    })
paragraph-at tables kept i u is within =
    let text = encode_utf8_all (concat kept) in
    let texts = texts-parts tables text ∙ ap (λ t. map encode_utf8_all (parts (bidi_of tables) t)) (points-encodes (concat kept) u) ∙ ap (map encode_utf8_all) (sym is) in
    let all = records-is 0 0 (paragraphs tables text) kept (follow-paragraphs text u tables) texts (decoded kept u) in
    ap (λ (ps : List Paragraph). slice_get ps i) all ∙ records-at 0 0 kept i within
    ∙ ap₂ (λ b n. Some (record { text = encode_utf8_all (get_or kept i []); first_byte = b; first_place = n })) (omega arith) (omega arith)
