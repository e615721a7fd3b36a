-- Plain code points at a place.
use Rattle.std.proofs.Common.{◌≡◌, ℕ, zero, suc, ◌+◌, ◌-◌, ◌<◌, true, false, nat_lt, Bool, List, [], ◌∷◌, map, length, take, drop, get_or, refl, sym, ap, ◌∙◌, arith}
use Rattle.std.proofs.lemmas.Bool.Decides.{nat_tests}
use Rattle.std.proofs.lemmas.List.{get_or-drop, get_or-map, length-map}
use Rattle.paragraphs.specs.Clusters.{is_plain}
use Rattle.unicode_tables.specs.Tables.{TableValues}
use Rattle.unicode_tables.specs.Word.{word_of}
use Rattle.unicode_tables.specs.declared.word.Word.{Word}
use Rattle.line_break.proofs.Marking.{slice-from}

-- one is there
pub plain-within : (points : List ℕ) (k : ℕ) → is_plain (get_or points k 0) ≡ true → k < length points
plain-within [] k h = absurd (let m : false ≡ true = h in cc)
plain-within (c ∷ points) zero h = omega arith
plain-within (c ∷ points) (suc k) h = let later = plain-within points k h in omega arith

-- what its word says
pub plain-word : (points : List ℕ) (words : List Word) (k : ℕ) (word : Word) → map (λ (w : Word). w.is_plain) words ≡ map is_plain points
    → true ≡ nat_lt k (length words) → word ≡ get_or words k word → word.is_plain ≡ true → is_plain (get_or points k 0) ≡ true
plain-word points words k word same lt at plain =
    let within : k < length words = grind (arith, nat_tests) in
    let a = length-map words (λ (w : Word). w.is_plain) in
    let b = length-map points is_plain in
    let n = ap length same in
    sym (get_or-map is_plain points k 0 false (omega arith)) ∙ sym (ap (λ (l : List Bool). get_or l k false) same)
    ∙ get_or-map (λ (w : Word). w.is_plain) words k word false within ∙ sym (ap (λ (w : Word). w.is_plain) at) ∙ plain

-- those from a place on
pub at-ahead : {A : Type 0} (i k : ℕ) (xs : List A) (d : A) → get_or (take (length xs - i) (drop i xs)) k d ≡ get_or xs (i + k) d
at-ahead i k xs d = ap (λ l. get_or l k d) (slice-from i xs) ∙ get_or-drop i xs k d

-- an item that is there needs no default
pub same-at : {A : Type 0} (xs : List A) (k : ℕ) (d e : A) → k < length xs → get_or xs k d ≡ get_or xs k e
same-at [] k d e lt = absurd (omega arith)
same-at (x ∷ xs) zero d e lt = refl
same-at (x ∷ xs) (suc k) d e lt = same-at xs k d e (omega arith)

-- the word of a code point
pub word-at : (tables : TableValues) (points : List ℕ) (words : List Word) (k c : ℕ) (d : Word) → words ≡ map (word_of tables) points → k < length points
    → c ≡ get_or points k 0 → get_or words k d ≡ word_of tables c
word-at tables points words k c d same lt at =
    ap (λ (l : List Word). get_or l k d) same ∙ get_or-map (word_of tables) points k 0 d lt ∙ ap (word_of tables) (sym at)
