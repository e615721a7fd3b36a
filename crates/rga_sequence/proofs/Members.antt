-- Which identifiers stand in blocks, and where they are at home.
use Rattle.std.proofs.Common.{◌≡◌, ℕ, zero, suc, ◌<◌, ◌+◌, ◌&&◌, ◌||◌, Bool, true, false, cond, not, List, [], ◌∷◌, ◌++◌, length, take, drop, get_or, Some, refl, sym, ap, subst, ◌∙◌, arith}
use Rattle.std.specs.Prelude.{insert, is_some}
use Rattle.std.specs.List.{list_any, AllByRecursion}
use Rattle.std.proofs.lemmas.List.{take-append-drop}
use Rattle.std.proofs.lemmas.List.Folds.{list_any-append}
use Rattle.bg_types.specs.Identifier.{Identifier, same_id}
use Rattle.bg_types.proofs.Interface.{same_id-is, same_id-itself}
use Rattle.rga_tree.specs.declared.element.Element.{Element}
use Rattle.rga_tree.specs.Row.{ids_of, is_distinct}
use Rattle.rga_tree.proofs.Interface.{until}
use Rattle.rga_sequence.specs.Blocks.{joined}
use Rattle.rga_sequence.specs.BlockRows.{has, home_of}
use Rattle.rga_sequence.proofs.Split.{AreApart, AreAllApart}
use Rattle.std.proofs.lemmas.Bool.{and_parts, or_parts, or_left, or_right}

-- ---- distinct rows

any_ids : (q : Identifier) (es : List Element) → list_any (same_id q) (ids_of es) ≡ has q es
any_ids q [] = refl
any_ids q (e ∷ es) = ap (λ b. same_id q e.id || b) (any_ids q es)

-- no identifier is in two parts of a distinct row
pub distinct-apart : (x y : List Element) → is_distinct (ids_of (x ++ y)) ≡ true → AreApart x y × ((is_distinct (ids_of x) ≡ true) × (is_distinct (ids_of y) ≡ true))
distinct-apart [] y d = (λ q a b. absurd cc, (refl, d))
distinct-apart (e ∷ x) y d =
    let p = and_parts (not (list_any (same_id e.id) (ids_of (x ++ y)))) (is_distinct (ids_of (x ++ y))) d in
    let rest = distinct-apart x y p.1 in
    let none : has e.id (x ++ y) ≡ false = sym (any_ids e.id (x ++ y)) ∙ unnot (list_any (same_id e.id) (ids_of (x ++ y))) p.0 in
    let parts = or_parts (has e.id x) (has e.id y) (sym (list_any-append (λ z. same_id e.id z.id) x y) ∙ none) in (
      (λ q a b. by_first q (same_id q e.id) refl a b parts.1 rest.0),
      (
        (λ i. not ((any_ids e.id x ∙ parts.0) i) && rest.1.0 i),
        rest.1.1,
      ),
    ) where
      unnot : (b : Bool) → not b ≡ true → b ≡ false
      unnot true h = absurd cc
      unnot false h = refl

      by_first : (q : Identifier) (t : Bool) → same_id q e.id ≡ t → (t || has q x) ≡ true → has q y ≡ true → has e.id y ≡ false → AreApart x y → ⊥
      by_first q true is a b out apart = let in_y : has e.id y ≡ true = subst (λ k. has k y ≡ true) (same_id-is q e.id is) b in absurd cc
      by_first q false is a b out apart = apart q a b

pub all_apart : (xs : List (List Element)) → is_distinct (ids_of (joined xs)) ≡ true → AreAllApart xs
all_apart [] d = tt
all_apart (x ∷ xs) d = let p = distinct-apart x (joined xs) d in (p.0, all_apart xs p.1.1)

pub distinct_in : (xs : List (List Element)) (i : ℕ) → i < length xs → is_distinct (ids_of (joined xs)) ≡ true → is_distinct (ids_of (get_or xs i [])) ≡ true
distinct_in [] i h d = absurd (omega arith)
distinct_in (x ∷ xs) zero h d = (distinct-apart x (joined xs) d).1.0
distinct_in (x ∷ xs) (suc i) h d = distinct_in xs i (omega arith) (distinct-apart x (joined xs) d).1.1

pub halves_apart : (xs : List (List Element)) (i n : ℕ) → i < length xs → is_distinct (ids_of (joined xs)) ≡ true → AreApart (take n (get_or xs i [])) (drop n (get_or xs i []))
halves_apart xs i n h d =
    let x = get_or xs i [] in
    (distinct-apart (take n x) (drop n x) (ap (λ r. is_distinct (ids_of r)) (take-append-drop n x) ∙ distinct_in xs i h d)).0

-- ---- what is in a row

pub all_have : (P : Identifier → Type 0) (es : List Element) → ((q : Identifier) → has q es ≡ true → P q) → AllByRecursion (λ e. P e.id) es
all_have P [] h = tt
all_have P (e ∷ es) h = (
  h e.id (or_left (same_id e.id e.id) (has e.id es) (same_id-itself e.id)),
  all_have P es (λ q there. h q (or_right (same_id q e.id) (has q es) there)),
)

pub has_drop : (n : ℕ) (es : List Element) (q : Identifier) → has q (drop n es) ≡ true → has q es ≡ true
has_drop n es q h =
    sym (sym (list_any-append (λ e. same_id q e.id) (take n es) (drop n es)) ∙ ap (has q) (take-append-drop n es)) ∙ or_right (has q (take n es)) (has q (drop n es)) h

has-insert : (l r : List Element) (n : Element) (q : Identifier) → has q (l ++ n ∷ r) ≡ (same_id q n.id || has q (l ++ r))
has-insert [] r n q = refl
has-insert (x ∷ l) r n q = ap (λ b. same_id q x.id || b) (has-insert l r n q) ∙ turned (same_id q x.id) (same_id q n.id) (has q (l ++ r)) where
  turned : (a b c : Bool) → (a || (b || c)) ≡ (b || (a || c))
  turned true true c = refl
  turned true false c = refl
  turned false b c = refl

pub has-inserted : (es : List Element) (i : ℕ) (n : Element) (q : Identifier) → has q (insert es i n) ≡ (same_id q n.id || has q es)
has-inserted es i n q = has-insert (take i es) (drop i es) n q ∙ ap (λ r. same_id q n.id || has q r) (take-append-drop i es)

-- ---- homes

-- an identifier is at home exactly where it stands
pub is_some-home : (xs : List (List Element)) (ns : List ℕ) (q : Identifier) → length xs ≡ length ns → is_some (home_of xs ns q) ≡ has q (joined xs)
is_some-home [] ns q many = refl
is_some-home (x ∷ xs) [] q many = absurd (omega arith)
is_some-home (x ∷ xs) (n ∷ ns) q many =
    elim (has q x) as (λ b. is_some (cond b (Some n) (home_of xs ns q)) ≡ (b || has q (joined xs))) [ true ↦ refl | false ↦ is_some-home xs ns q (omega arith) ]
    ∙ sym (list_any-append (λ e. same_id q e.id) x (joined xs))

-- the first block with it
pub record IsFirst (xs : List (List Element)) (ns : List ℕ) (q : Identifier) (n p : ℕ) : Type 0 where
  pub there : p < length xs
  pub number : get_or ns p 0 ≡ n
  pub inside : has q (get_or xs p []) ≡ true
  pub before : has q (joined (take p xs)) ≡ false

pub home-first : (xs : List (List Element)) (ns : List ℕ) (q : Identifier) (n : ℕ) → home_of xs ns q ≡ Some n → (p : ℕ) × IsFirst xs ns q n p
home-first [] ns q n h = absurd cc
home-first (x ∷ xs) [] q n h = absurd cc
home-first (x ∷ xs) (m ∷ ns) q n h = by_test (λ k. home-first xs ns q n k) (has q x) refl h where
  by_test : (home_of xs ns q ≡ Some n → (p : ℕ) × IsFirst xs ns q n p) → (b : Bool) → has q x ≡ b → cond b (Some m) (home_of xs ns q) ≡ Some n → (p : ℕ) × IsFirst (x ∷ xs) (m ∷ ns) q n p
  by_test more true is h = let same : m ≡ n = cc in (0, record { there = omega arith; number = same; inside = is; before = refl })
  by_test more false is h =
      let rest = more h in (
        suc rest.0,
        record {
          there = let less = rest.1.there in omega arith;
          number = rest.1.number;
          inside = rest.1.inside;
          before = list_any-append (λ e. same_id q e.id) x (joined (take rest.0 xs)) ∙ (λ i. is i || rest.1.before i);
        },
      )

-- ---- how many stand before the one with an identifier

pub has-there : (es : List Element) (q : Identifier) (i : ℕ) (d : Element) → i < length es → same_id q (get_or es i d).id ≡ true → has q es ≡ true
has-there [] q i d h is = absurd (omega arith)
has-there (e ∷ es) q zero d h is = or_left (same_id q e.id) (has q es) is
has-there (e ∷ es) q (suc i) d h is = or_right (same_id q e.id) (has q es) (has-there es q i d (omega arith) is)

-- in a distinct row each stands where one with its identifier does
pub until-there : (q : Identifier) (es : List Element) (i : ℕ) (d : Element) → is_distinct (ids_of es) ≡ true → i < length es → same_id q (get_or es i d).id ≡ true → until q es ≡ i
until-there q [] i d distinct h is = absurd (omega arith)
until-there q (e ∷ es) zero d distinct h is = ap (λ b. cond (not b) (1 + until q es) 0) is
until-there q (e ∷ es) (suc i) d distinct h is =
    let parts = and_parts (not (list_any (same_id e.id) (ids_of es))) (is_distinct (ids_of es)) distinct in
    let rest = until-there q es i d parts.1 (omega arith) is in
    let later : has q es ≡ true = has-there es q i d (omega arith) is in
    by_test (same_id q e.id) refl later parts.0 rest where
      by_test : (b : Bool) → same_id q e.id ≡ b → has q es ≡ true → not (list_any (same_id e.id) (ids_of es)) ≡ true → until q es ≡ i → cond (not b) (1 + until q es) 0 ≡ suc i
      by_test true same later none rest =
          let again : has e.id es ≡ true = subst (λ k. has k es ≡ true) (same_id-is q e.id same) later in
          let both : not true ≡ true = ap not (sym again ∙ sym (any_ids e.id es)) ∙ none in
          absurd cc
      by_test false same later none rest = omega (arith, rest)
