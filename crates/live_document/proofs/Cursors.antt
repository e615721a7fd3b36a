-- Rows are read by a cursor over their paragraphs.
use Rattle.std.proofs.Common.{◌≡◌, ℕ, zero, suc, ◌+◌, ◌-◌, ◌<◌, ◌≤◌, Some, List, [], ◌∷◌, length, drop, ap, ap₂, subst, ◌∙◌, sym, arith}
use Rattle.std.proofs.lemmas.List.{length-map, length-drop}
use Rattle.std.specs.Prelude.{slice_get, encode_utf8_all}
use Rattle.std.specs.Str.{IsUtf8}
use Rattle.unicode_tables.specs.Tables.{TableValues, bidi_of}
use Rattle.paragraphs.specs.Text.{code_points}
use Rattle.paragraphs.specs.Paragraphs.{Paragraph, cuts, pieces, paragraphs}
use Rattle.text_buffer.specs.Buffers.{Standing, bytes_in, paragraphs_in, text_in, IsSplit}
use Rattle.live_document.specs.Keeping.{Rows, KeptText, rows_at, IsKeptAt}
use Rattle.live_document.specs.declared.shown.Shown.{Shown}
use Rattle.live_document.specs.Showing.{rows_from, IsReadable}
use Rattle.live_document.specs.Reading.{IsReading}
use Rattle.live_document.proofs.Stretches.{count-texts}

pieces-some : (points : List ℕ) (from : ℕ) (cuts : List ℕ) → 0 < length (pieces points from cuts)
pieces-some points from [] = omega arith
pieces-some points from (cut ∷ later) = omega arith

-- a text has a paragraph
pub split-some : (tables : TableValues) (kept : KeptText) → IsSplit tables (paragraphs_in kept) → 0 < length kept
split-some tables kept split =
    let ps = paragraphs tables (encode_utf8_all (text_in kept)) in
    let points = code_points (encode_utf8_all (text_in kept)) in
    let some = pieces-some points 0 (cuts (bidi_of tables) points) in
    let all = ap length split ∙ length-map ps (λ (p : Paragraph). code_points p.text) in
    let count = count-texts kept in
    omega (arith, all, count, some)

-- rows are kept of paragraphs that are there
pub rows_at-there : (kept : KeptText) (n : ℕ) → 0 < length (rows_at kept n) → n < length kept
rows_at-there [] n some = absurd (omega arith)
rows_at-there (p ∷ kept) zero some = omega arith
rows_at-there (p ∷ kept) (suc n) some = let h = rows_at-there kept n some in omega arith

-- a cursor's paragraph, by its number
pub paragraph-there : (tables : TableValues) (kept : KeptText) (n : ℕ) (c : Standing Rows) (q : Paragraph) → c.paragraphs ≡ kept → c.number ≡ n → IsSplit tables (paragraphs_in kept)
    → (IsSplit tables (paragraphs_in c.paragraphs) → slice_get (paragraphs tables (encode_utf8_all (text_in c.paragraphs))) c.number ≡ Some q)
    → slice_get (paragraphs tables (encode_utf8_all (text_in kept))) n ≡ Some q
paragraph-there tables kept n c q p at split found =
    ap₂ (λ (k : KeptText) m. slice_get (paragraphs tables (encode_utf8_all (text_in k))) m) (sym p) (sym at)
    ∙ found (subst (λ (k : KeptText). IsSplit tables (paragraphs_in k)) (sym p) split)

-- the same rows are read from a later paragraph on
pub reading-on : (c d : Standing Rows) (row number left : ℕ) → IsReading c row left → d.paragraphs ≡ c.paragraphs
    → drop number (rows_from d.paragraphs d.number) ≡ drop row (rows_from c.paragraphs c.number) → 0 < left → IsReading d number left
reading-on c d row number left h p same some =
    let enough = h.enough in
    let e = ap length same in
    let a = length-drop number (rows_from d.paragraphs d.number) in
    let b = length-drop row (rows_from c.paragraphs c.number) in
    record {
      tables = h.tables;
      width = h.width;
      base = h.base;
      kept_at = subst (IsKeptAt h.tables h.width h.base) (sym p) h.kept_at;
      enough = omega arith;
      few = subst (λ (k : KeptText). bytes_in (text_in k) ≤ 4_000_000) (sym p) h.few;
      utf8 = subst (λ (k : KeptText). IsUtf8 (encode_utf8_all (text_in k))) (sym p) h.utf8;
    }

-- and behind the first of them
pub reading-past : (c : Standing Rows) (row left : ℕ) → IsReading c row left → 0 < left → IsReading c (row + 1) (left - 1)
reading-past c row left h some =
    let enough = h.enough in
    record { tables = h.tables; width = h.width; base = h.base; kept_at = h.kept_at; enough = omega arith; few = h.few; utf8 = h.utf8 }

-- ---- the rows of a window

module _ (kept : KeptText) (s : Shown) (c : Standing Rows) (r : IsReadable kept s) (p : c.paragraphs ≡ kept) where
  reading-of : (row left : ℕ) → row + left ≤ length (rows_from c.paragraphs c.number) → bytes_in (text_in kept) ≤ 4_000_000 → IsUtf8 (encode_utf8_all (text_in kept)) → IsReading c row left
  reading-of row left enough few utf8 = record {
    tables = r.tables;
    width = r.width;
    base = r.base;
    kept_at = subst (IsKeptAt r.tables r.width r.base) (sym p) r.kept_at;
    enough = enough;
    few = subst (λ (k : KeptText). bytes_in (text_in k) ≤ 4_000_000) (sym p) few;
    utf8 = subst (λ (k : KeptText). IsUtf8 (encode_utf8_all (text_in k))) (sym p) utf8;
  }

  -- by a cursor at their first paragraph
  pub reading-at : c.number ≡ s.first → bytes_in (text_in kept) ≤ 4_000_000 → IsUtf8 (encode_utf8_all (text_in kept)) → IsReading c s.skip s.count
  reading-at n few utf8 =
      let size = ap length (ap₂ rows_from p n) in
      let enough = r.at_hand.enough in
      reading-of s.skip s.count (omega arith) few utf8

  -- the one with a number stands there where the rows from there on are those from this one on
  module _ (row number : ℕ) (within : number < s.count) (same : drop row (rows_from c.paragraphs c.number) ≡ drop (s.skip + number) (rows_from kept s.first)) where
    pub inside-there : row < length (rows_from c.paragraphs c.number)
    inside-there =
        let enough = r.at_hand.enough in
        let e = ap length same in
        let a = length-drop row (rows_from c.paragraphs c.number) in
        let b = length-drop (s.skip + number) (rows_from kept s.first) in
        omega arith

    pub reading-there : bytes_in (text_in kept) ≤ 4_000_000 → IsUtf8 (encode_utf8_all (text_in kept)) → (left : ℕ) × IsReading c row left
    reading-there few utf8 = let inside = inside-there in (0, reading-of row 0 (omega arith) few utf8)
