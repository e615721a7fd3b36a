-- The columns of one code point, as its word tells them.
use Rattle.std.proofs.Common.{◌≡◌, ℕ, ◌+◌, ◌<◌, eqb-true, Bool, true, false, ◌||◌, ◌&&◌, ◌==◌, List, [], ◌∷◌, map, length, drop, get_or, sym, ap, ◌∙◌, refl, arith}
use Rattle.std.proofs.lemmas.Bool.{and_parts}
use Rattle.std.proofs.lemmas.List.{get_or-map}
use Rattle.std.specs.Int.{from_bool}
use Rattle.std.specs.List.{list_all, list_any}
use Rattle.std.specs.Prelude.{if◌then◌else◌}
use Rattle.unicode_tables.specs.Tables.{TableValues}
use Rattle.unicode_tables.specs.Word.{word_of}
use Rattle.unicode_tables.specs.declared.word.Word.{Word}
use Rattle.paragraphs.specs.Classes.{is_ambiguous, is_wide}
use Rattle.paragraphs.specs.Columns.{ends_line, is_invisible, takes_two, takes_two_by_choice, columns_of}

-- the columns where ambiguous code points are narrow
abbrev alone : Bool → Bool → ℕ
alone unseen wide = if unseen then 0 else (if wide then 2 else 1)

-- the cases of one code point in their order, where the choice makes narrow ones wide
by_cases : (ends unseen wide choice : Bool)
    → ◌≡◌ {A = ℕ} (if ends then 0 else (if unseen && true then 0 else (if wide || false then 2 else (if choice then 2 else 1))))
    (if alone (ends || unseen) wide == 1 && choice then 2 else alone (ends || unseen) wide)
by_cases true unseen wide choice = refl
by_cases false true wide choice = refl
by_cases false false true choice = refl
by_cases false false false true = refl
by_cases false false false false = refl

columns-alone : (tables : TableValues) (c : ℕ)
    → columns_of tables (c ∷ []) ≡ (if (word_of tables c).columns == 1 && takes_two_by_choice tables c then 2 else (word_of tables c).columns)
columns-alone tables c = by_cases (ends_line tables c) (is_invisible tables c) (takes_two tables c) (takes_two_by_choice tables c)

-- the cases in their order, by the first of several code points
by_first : (ends unseen wide choice : Bool)
    → ◌≡◌ {A = ℕ} (if ends then 0 else (if unseen then 0 else (if wide then 2 else (if choice then 2 else 1)))) (if ends || unseen then 0 else (if wide || choice then 2 else 1))
by_first true unseen wide choice = refl
by_first false true wide choice = refl
by_first false false true choice = refl
by_first false false false choice = refl

pub columns-first : (tables : TableValues) (points : List ℕ) (first : ℕ) (none two : Bool) → points ≡ first ∷ drop 1 points
    → none ≡ (ends_line tables first || list_all (is_invisible tables) points) → two ≡ (list_any (takes_two tables) points || takes_two_by_choice tables first)
    → (if none then 0 else (if two then 2 else 1)) ≡ columns_of tables points
columns-first tables points first none two is unseen wide =
    let same = λ (ps : List ℕ). if ends_line tables first || list_all (is_invisible tables) ps then 0 else (if list_any (takes_two tables) ps || takes_two_by_choice tables first then 2 else 1) in
    ap (λ b. if b then 0 else (if two then 2 else 1)) unseen
    ∙ ap (λ b. if ends_line tables first || list_all (is_invisible tables) points then 0 else (if b then 2 else 1)) wide
    ∙ ap same is
    ∙ sym (by_first (ends_line tables first) (list_all (is_invisible tables) (first ∷ drop 1 points)) (list_any (takes_two tables) (first ∷ drop 1 points)) (takes_two_by_choice tables first))
    ∙ sym (ap (columns_of tables) is)

and-swap : (a b c : Bool) → (a && (b && c)) ≡ (b && (a && c))
and-swap true true c = refl
and-swap true false c = refl
and-swap false true c = refl
and-swap false false c = refl

-- the same as a sum
sum-by_test : (n : ℕ) (choice wider : Bool) → wider ≡ (n == 1 && choice) → n + from_bool wider ≡ (if n == 1 && choice then 2 else n)
sum-by_test n choice true e =
    let one = eqb-true n 1 ((and_parts (n == 1) choice (sym e)).0) in
    let two : n + 1 ≡ 2 = omega arith in
    two ∙ ap (λ (b : Bool). if b then 2 else n) e
sum-by_test n choice false e =
    let none : n + 0 ≡ n = omega arith in
    none ∙ ap (λ (b : Bool). if b then 2 else n) e

pub columns-sum : (tables : TableValues) (word : Word) (c : ℕ) (wider : Bool) → word ≡ word_of tables c
    → wider ≡ (tables.wide_ambiguous && (word.columns == 1 && is_ambiguous word.ea)) → word.columns + from_bool wider ≡ columns_of tables (c ∷ [])
columns-sum tables word c wider same test =
    ap (λ (w : Word). w.columns + from_bool wider) same
    ∙ sum-by_test (word_of tables c).columns (takes_two_by_choice tables c) wider
    (test ∙ and-swap tables.wide_ambiguous (word.columns == 1) (is_ambiguous word.ea)
    ∙ ap (λ (w : Word). w.columns == 1 && (tables.wide_ambiguous && is_ambiguous w.ea)) same)
    ∙ sym (columns-alone tables c)

-- the cases of several code points, of which the first is seen, where `more` says whether one of the others is wide
by_marks : (ends unseen later wide more : Bool) (choice : ℕ) → 0 < alone (ends || unseen) wide → more ≡ false
    → ◌≡◌ {A = ℕ} (if ends then 0 else (if unseen && later then 0 else (if wide || more then 2 else choice)))
    (if ends then 0 else (if unseen && true then 0 else (if wide || false then 2 else choice)))
by_marks true unseen later wide more choice h none = absurd (omega arith)
by_marks false true later wide more choice h none = absurd (omega arith)
by_marks false false later wide true choice h none = absurd (cc none)
by_marks false false later wide false choice h none = refl

-- the words tell whether one of several code points is wide
any-wide : (tables : TableValues) (points : List ℕ) → list_any (λ (w : Word). is_wide w.ea) (map (word_of tables) points) ≡ list_any (takes_two tables) points
any-wide tables [] = refl
any-wide tables (c ∷ points) = ap (λ b. takes_two tables c || b) (any-wide tables points)

-- the columns of several code points are those of the first alone, where it is seen and none of the others is wide
pub columns-of_marked : (tables : TableValues) (points : List ℕ) (words : List Word) → words ≡ map (word_of tables) points
    → 0 < get_or (map (λ (w : Word). w.columns) words) 0 0 → list_any (λ (w : Word). is_wide w.ea) (drop 1 words) ≡ false
    → columns_of tables (get_or points 0 0 ∷ []) ≡ columns_of tables points
columns-of_marked tables [] words same seen narrow = absurd (let none = ap (λ (ws : List Word). get_or (map (λ (w : Word). w.columns) ws) 0 0) same in omega arith)
columns-of_marked tables (c ∷ points) words same seen narrow =
    let first = ap (λ (ws : List Word). get_or (map (λ (w : Word). w.columns) ws) 0 0) same in
    let later = sym (any-wide tables points) ∙ sym (ap (λ (ws : List Word). list_any (λ (w : Word). is_wide w.ea) (drop 1 ws)) same) ∙ narrow in
    sym (by_marks (ends_line tables c) (is_invisible tables c) (list_all (is_invisible tables) points) (takes_two tables c) (list_any (takes_two tables) points)
    (if takes_two_by_choice tables c then 2 else 1) (omega arith) later)

-- where one is seen by itself there is one
pub seen-some : (words : List Word) → 0 < get_or (map (λ (w : Word). w.columns) words) 0 0 → 0 < length words
seen-some [] seen = seen
seen-some (w ∷ words) seen = omega arith

-- the first word is that of the first code point
pub word-first : (tables : TableValues) (points : List ℕ) (words : List Word) (c : ℕ) (d : Word) → words ≡ map (word_of tables) points → 0 < length points
    → c ≡ get_or points 0 c → get_or words 0 d ≡ word_of tables c
word-first tables points words c d same within first =
    ap (λ (ws : List Word). get_or ws 0 d) same ∙ get_or-map (word_of tables) points 0 c d within ∙ ap (word_of tables) (sym first)
