-- A cut depends on the two code points beside it.
use Rattle.std.proofs.Common.{◌≡◌, ℕ, suc, ◌+◌, ◌-◌, ◌<◌, true, List, [], ◌∷◌, ◌++◌, map, length, take, drop, get_or, refl, sym, ap, ap₂, ◌∙◌, arith}
use Rattle.std.proofs.lemmas.List.{append_assoc, length-append, drop-append-le, drop-drop, drop_at, drop_more, take-map, length-map, map-append, get_or_append_left, get_or-append-add}
use Rattle.std.proofs.lemmas.Str.{chars-append}
use Rattle.std.specs.Prelude.{encode_utf8_all}
use Rattle.std.specs.Str.{IsUtf8}
use Rattle.bg_types.specs.declared.class.Bidi.{Bidi}
use Rattle.unicode_tables.specs.Tables.{TableValues, bidi_of}
use Rattle.paragraphs.specs.Text.{code_points}
use Rattle.paragraphs.specs.Paragraphs.{Paragraph, ends_paragraph, is_cut, meets_at_cut, paragraphs}
use Rattle.paragraphs.proofs.Parts.{parts, front, front-is, parts-append}
use Rattle.paragraphs.proofs.Records.{texts-parts}

module _ (class : ℕ → Bidi) where
  -- inside what stands in front
  is_cut-inside : (a b : List ℕ) (n : ℕ) → 0 < n → n < length a → is_cut class (a ++ b) n ≡ is_cut class a n
  is_cut-inside a b n some within =
      let rest = drop_more a n 0 within in
      let before = get_or_append_left a b 0 (n - 1) (omega arith) in
      ap₂ (ends_paragraph class) before (drop-append-le n a b (omega arith) ∙ ap (λ t. t ++ b) rest)
      ∙ sym (ap (ends_paragraph class (get_or a (n - 1) 0)) rest)

  -- inside what stands behind
  is_cut-behind : (a b : List ℕ) (n : ℕ) → 0 < n → is_cut class (a ++ b) (length a + n) ≡ is_cut class b n
  is_cut-behind a b n some =
      let at : length a + n - 1 ≡ length a + (n - 1) = omega arith in
      ap₂ (ends_paragraph class) (ap (λ k. get_or (a ++ b) k 0) at ∙ get_or-append-add a b (n - 1) 0)
      (sym (drop-drop n (length a) (a ++ b)) ∙ ap (drop n) (drop_at a b (length a) refl))

  pub cuts-before : (before old new after : List ℕ) (n : ℕ) → 0 < n → n < length before → is_cut class (before ++ old ++ after) n ≡ is_cut class (before ++ new ++ after) n
  cuts-before before old new after n some within =
      ap (λ t. is_cut class t n) (append_assoc before old after) ∙ is_cut-inside before (old ++ after) n some within
      ∙ sym (ap (λ t. is_cut class t n) (append_assoc before new after) ∙ is_cut-inside before (new ++ after) n some within)

  pub cuts-after : (before old new after : List ℕ) (n : ℕ) → 0 < n
      → is_cut class (before ++ old ++ after) (length before + length old + n) ≡ is_cut class (before ++ new ++ after) (length before + length new + n)
  cuts-after before old new after n some =
      ap (λ k. is_cut class (before ++ old ++ after) (k + n)) (sym (length-append before old)) ∙ is_cut-behind (before ++ old) after n some
      ∙ sym (ap (λ k. is_cut class (before ++ new ++ after) (k + n)) (sym (length-append before new)) ∙ is_cut-behind (before ++ new) after n some)

  -- a text that isn't empty meets what follows at a cut where its end is one
  pub meets-is : (a b : List ℕ) → 0 < length a → meets_at_cut class a b ≡ is_cut class (a ++ b) (length a)
  meets-is [] b h = absurd (omega arith)
  meets-is (c ∷ []) b h = refl
  meets-is (c ∷ d ∷ a) b h = meets-is (d ∷ a) b (omega arith)
      ∙ ap (λ k. ends_paragraph class (get_or (d ∷ (a ++ b)) k 0) (drop (suc (length a)) (d ∷ (a ++ b)))) (let e : suc (length a) - 1 ≡ length a = omega arith in e)
      ∙ sym (ap (λ k. ends_paragraph class (get_or (c ∷ d ∷ (a ++ b)) k 0) (drop (suc (length a)) (d ∷ (a ++ b)))) (let e : suc (suc (length a)) - 1 ≡ suc (length a) = omega arith in e))

pub texts-append : (tables : TableValues) (a b : List ℕ) → IsUtf8 a → IsUtf8 b → meets_at_cut (bidi_of tables) (code_points a) (code_points b) ≡ true
    → map (λ (p : Paragraph). p.text) (paragraphs tables (a ++ b))
    ≡ take (length (paragraphs tables a) - 1) (map (λ (p : Paragraph). p.text) (paragraphs tables a)) ++ map (λ (p : Paragraph). p.text) (paragraphs tables b)
texts-append tables a b u v met =
    let class = bidi_of tables in
    let ps = parts class (code_points a) in
    let qs = parts class (code_points b) in
    let size : length (paragraphs tables a) ≡ length ps =
    sym (length-map (paragraphs tables a) (λ (p : Paragraph). p.text)) ∙ ap length (texts-parts tables a) ∙ length-map ps encode_utf8_all in
    texts-parts tables (a ++ b)
    ∙ ap (λ t. map encode_utf8_all (parts class t)) (chars-append a b u)
    ∙ ap (map encode_utf8_all) (parts-append class (code_points a) (code_points b) met)
    ∙ map-append encode_utf8_all (front ps) qs
    ∙ ap₂ (λ x y. x ++ y)
    (ap (map encode_utf8_all) (front-is ps) ∙ sym (take-map encode_utf8_all (length ps - 1) ps)
    ∙ ap₂ (λ n t. take (n - 1) t) (sym size) (sym (texts-parts tables a)))
    (sym (texts-parts tables b))
