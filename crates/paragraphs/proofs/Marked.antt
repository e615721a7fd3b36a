-- A text that begins with a plain character and marks.
use Rattle.std.proofs.Common.{◌≡◌, ℕ, zero, suc, ◌+◌, ◌-◌, ◌*◌, ◌<◌, ◌≤◌, Bool, true, false, ◌||◌, List, [], ◌∷◌, ◌++◌, map, length, take, drop, get_or, refl, sym, ap, ap₂, subst, ◌∙◌, inl, inr, arith}
use Rattle.std.proofs.lemmas.Bool.{cases_lt}
use Rattle.std.proofs.lemmas.Bool.Decides.{nat_tests}
use Rattle.std.proofs.lemmas.List.Folds.{list_any_more}
use Rattle.std.proofs.lemmas.List.{length-append, length-drop, length-map, length-take, take-append-drop, drop_at, get_or-map, get_or-take, get_or-drop}
use Rattle.std.proofs.lemmas.Str.{chars_from_encodes, length-encode}
use Rattle.std.specs.Char.{len_utf8}
use Rattle.std.specs.List.{list_any}
use Rattle.std.specs.Prelude.{encode_utf8, encode_utf8_all}
use Rattle.std.specs.Str.{IsUtf8, IsCharBoundary}
use Rattle.unicode_tables.specs.declared.word.Word.{Word}
use Rattle.unicode_segmentation.proofs.TextLemmas.{IsUtf8-before}
use Rattle.paragraphs.specs.Text.{code_points}
use Rattle.paragraphs.specs.Clusters.{clusters, is_plain}
use Rattle.paragraphs.specs.Classes.{is_wide}
use Rattle.paragraphs.specs.Marked.{is_mark, AreMarked}
use Rattle.paragraphs.proofs.Joined.{AreMarks, ends-before, clusters-marked}
use Rattle.paragraphs.proofs.Slices.{byte_of, text-split, IsUtf8-rest, IsCharBoundary-byte_of, IsCharBoundary-on}

-- the words of code points, in order
module _ (points : List ℕ) (words : List Word) (same : map (λ (w : Word). w.is_plain) words ≡ map is_plain points) where
  pub words-length : length words ≡ length points
  words-length = sym (length-map words (λ (w : Word). w.is_plain)) ∙ ap length same ∙ length-map points is_plain

  pub word-plain : (k : ℕ) (d : Word) → k < length points → (get_or words k d).is_plain ≡ is_plain (get_or points k 0)
  word-plain k d h =
      sym (get_or-map (λ (w : Word). w.is_plain) words k d false (omega (arith, words-length)))
      ∙ ap (λ bs. get_or bs k false) same ∙ get_or-map is_plain points k 0 false h

  -- the first
  pub word-seen : (d : Word) → 0 < length points → ((get_or words 0 d).columns ≡ 0 → ⊥) → 0 < get_or (map (λ (w : Word). w.columns) words) 0 0
  word-seen d some seen =
      let first = get_or-map (λ (w : Word). w.columns) words 0 d 0 (omega (arith, words-length)) in
      elim (cases_lt 0 (get_or (map (λ (w : Word). w.columns) words) 0 0)) [
        | inl lt ↦ lt
        | inr ge ↦ absurd (seen (omega arith))
      ]

  -- it is plain, and marks follow it
  pub marked-from : (n : ℕ) (d : Word) → 0 < length points → (get_or words 0 d).is_plain ≡ true → 0 < n → n ≤ length points
      → ((k : ℕ) → 0 < k → k < n → is_mark (get_or points k 0) ≡ true) → (n < length points → is_plain (get_or points n 0) ≡ true) → AreMarked points n
  marked-from n d here plain some within marks behind =
      record { some = some; within = within; plain = sym (word-plain 0 d here) ∙ plain; marks = marks; behind = behind }

-- one more that isn't wide
pub narrow-on : (words : List Word) (k : ℕ) (d : Word) → 0 < k → k < length words → list_any (λ (w : Word). is_wide w.ea) (take (k - 1) (drop 1 words)) ≡ false
    → is_wide (get_or words k d).ea ≡ false → list_any (λ (w : Word). is_wide w.ea) (take (k + 1 - 1) (drop 1 words)) ≡ false
narrow-on words k d some within narrow here =
    let p : Word → Bool = λ w. is_wide w.ea in
    let more : k + 1 - 1 ≡ k - 1 + 1 = omega arith in
    let at : 1 + (k - 1) ≡ k = omega arith in
    ap (λ n. list_any p (take n (drop 1 words))) more
    ∙ list_any_more p (drop 1 words) (k - 1) d (omega (arith, length-drop 1 words))
    ∙ ap₂ ◌||◌ narrow (ap p (get_or-drop 1 words (k - 1) d ∙ ap (λ n. get_or words n d) at) ∙ here)

mark-len : (c : ℕ) → true ≡ is_mark c → len_utf8 c ≡ 2
mark-len c h = grind (arith, nat_tests)

mark-bytes : (marks : List ℕ) → AreMarks marks → length (encode_utf8_all marks) ≡ length marks * 2
mark-bytes [] each = refl
mark-bytes (m ∷ marks) each =
    let first : length (encode_utf8 m) ≡ 2 = length-encode m ∙ mark-len m (each 0 (omega arith)) in
    let later = mark-bytes marks (λ k h. each (suc k) (omega arith)) in
    omega (arith, length-append (encode_utf8 m) (encode_utf8_all marks))

front-first : (points : List ℕ) (n : ℕ) → 0 < n → n ≤ length points → take n points ≡ get_or points 0 0 ∷ take (n - 1) (drop 1 points)
front-first points zero some within = absurd (omega arith)
front-first [] (suc n) some within = absurd (omega arith)
front-first (c ∷ points) (suc n) some within = let e : n ≡ suc n - 1 = omega arith in ap (λ k. c ∷ take k points) e

module _ (text points : List ℕ) (n : ℕ) (u : IsUtf8 text) (all : points ≡ code_points text) (m : AreMarked points n) where
  front : take n points ≡ get_or points 0 0 ∷ take (n - 1) (drop 1 points)
  front = front-first points n m.some m.within

  marks-are : AreMarks (take (n - 1) (drop 1 points))
  marks-are = λ k h.
      let few : k < n - 1 = omega (arith, length-take (n - 1) (drop 1 points)) in
      sym (ap is_mark (get_or-take (n - 1) (drop 1 points) k 0 few ∙ get_or-drop 1 points k 0) ∙ m.marks (1 + k) (omega arith) (omega arith))

  -- how many bytes they have
  pub marked-bytes : (c : ℕ) → c ≡ get_or points 0 0 → len_utf8 c + (n - 1) * 2 ≡ byte_of (code_points text) n
  marked-bytes c first =
      let marks = take (n - 1) (drop 1 points) in
      let size : length marks ≡ n - 1 = omega (arith, length-take (n - 1) (drop 1 points), length-drop 1 points, m.within) in
      let wide = mark-bytes marks marks-are in
      let alone = length-encode (get_or points 0 0) in
      let same = ap len_utf8 first in
      let both : length (encode_utf8_all (get_or points 0 0 ∷ marks)) ≡ length (encode_utf8 (get_or points 0 0)) + length (encode_utf8_all marks) =
      length-append (encode_utf8 (get_or points 0 0)) (encode_utf8_all marks) in
      let count : len_utf8 c + (n - 1) * 2 ≡ length (encode_utf8_all (get_or points 0 0 ∷ marks)) = omega arith in
      count ∙ ap (λ ps. length (encode_utf8_all ps)) (sym front) ∙ ap (λ ps. length (encode_utf8_all (take n ps))) all

  -- a text may be cut after them
  IsCharBoundary-marked : (end : ℕ) → end ≡ byte_of (code_points text) n → IsCharBoundary text end
  IsCharBoundary-marked end e = subst (IsCharBoundary text) (sym e) (IsCharBoundary-byte_of text u n)

  pub points-marked : code_points (encode_utf8_all (take n points)) ≡ take n points
  points-marked =
      let read = chars_from_encodes (take n (code_points text)) _ (IsUtf8-before text _ _ u (IsUtf8-rest text u n) (text-split text u n)) refl in
      ap (λ ps. code_points (encode_utf8_all (take n ps))) all ∙ sym read ∙ ap (take n) (sym all)

  module _ (end : ℕ) (rest : List ℕ) (e : end ≡ byte_of (code_points text) n) (cut : rest ≡ drop end text) where
    rest-is : rest ≡ encode_utf8_all (drop n (code_points text))
    rest-is = cut ∙ ap (drop end) (text-split text u n) ∙ drop_at (encode_utf8_all (take n (code_points text))) _ end (sym e)

    points-behind : code_points rest ≡ drop n points
    points-behind =
        ap code_points rest-is ∙ sym (chars_from_encodes (drop n (code_points text)) _ (IsUtf8-rest text u n) refl) ∙ ap (drop n) (sym all)

    -- they are a cluster
    pub clusters-past_marks : clusters text ≡ encode_utf8_all (take n points) ∷ clusters rest
    clusters-past_marks =
        let c = get_or points 0 0 in
        let marks = take (n - 1) (drop 1 points) in
        let split : code_points text ≡ c ∷ (marks ++ code_points rest) =
        sym all ∙ sym (take-append-drop n points) ∙ ap (λ ps. ps ++ drop n points) front ∙ ap (λ ps. c ∷ (marks ++ ps)) (sym points-behind) in
        let behind : 0 < length (code_points rest) → is_plain (get_or (code_points rest) 0 0) ≡ true = λ h.
        let at : n + 0 ≡ n = omega arith in
        ap (λ ps. is_plain (get_or ps 0 0)) points-behind ∙ ap is_plain (get_or-drop n points 0 0 ∙ ap (λ k. get_or points k 0) at)
        ∙ m.behind (omega (arith, ap length points-behind, length-drop n points)) in
        clusters-marked text rest c marks split (sym m.plain) marks-are (ends-before (code_points rest) behind)
        ∙ ap (λ ps. encode_utf8_all ps ∷ clusters rest) (sym front)

-- a text may be cut after them, where they are what is left of it from a byte on
pub IsCharBoundary-past_marks : (text : List ℕ) (byte : ℕ) (rest points : List ℕ) (n c len : ℕ) → byte ≤ length text → rest ≡ drop byte text → IsUtf8 rest → points ≡ code_points rest
    → AreMarked points n → c ≡ get_or points 0 0 → len ≡ len_utf8 c → IsCharBoundary text (byte + (len + (n - 1) * 2))
IsCharBoundary-past_marks text byte rest points n c len within from u all m first e =
    IsCharBoundary-on text byte rest (len + (n - 1) * 2) within from
    (IsCharBoundary-marked rest points n u all m (len + (n - 1) * 2) (ap (λ l. l + (n - 1) * 2) e ∙ marked-bytes rest points n u all m c first))
