-- Stretches of which no two have an identifier in common.
use Rattle.std.proofs.Common.{◌≡◌, ℕ, zero, suc, ◌<◌, ◌+◌, ◌/◌, ◌||◌, Bool, true, false, not, List, [], ◌∷◌, ◌++◌, length, take, drop, get_or, refl, sym, ap, subst, ◌∙◌, append_assoc, arith}
use Rattle.std.specs.Prelude.{All, insert, set}
use Rattle.std.specs.List.{list_any}
use Rattle.std.proofs.lemmas.Bool.{and_parts, and_from, or_parts, or_left, or_right, not-true}
use Rattle.std.proofs.lemmas.List.{take-append-drop}
use Rattle.std.proofs.lemmas.List.Concat.{flat_map-append}
use Rattle.std.proofs.lemmas.List.Folds.{list_any-append}
use Rattle.std.proofs.lemmas.List.Elements.{All-cons}
use Rattle.bg_types.specs.Identifier.{Identifier, same_id}
use Rattle.bg_types.specs.declared.op.Place.{Place}
use Rattle.bg_types.specs.declared.op.Place.TheVariants.{After}
use Rattle.bg_types.proofs.Interface.{same_id-is, same_id-itself}
use Rattle.rga_tree.specs.declared.element.Element.{Element}
use Rattle.rga_tree.specs.Row.{ids_of, is_distinct}
use Rattle.rga_runs.specs.declared.stretch.Stretch.{Stretch}
use Rattle.rga_runs.specs.Typed.{later, typed}
use Rattle.rga_runs.specs.Stretches.{elements_of, elements_in, characters_of, is_stored, are_stored, ids_from, ids_in, AreApart, IsOutside}
use Rattle.rga_runs.proofs.Typed.{later-more, later-none}
use Rattle.rga_runs.specs.Blocks.{row_of}
use Rattle.rga_runs.proofs.Chunks.{row_around}
use Rattle.rga_runs.proofs.Rows.{length-characters}

-- ---- the identifiers of elements

ids-typed : (id : Identifier) (p : Place) (m : ℕ) (cs : List ℕ) → ids_of (typed id p m cs) ≡ ids_from id (length cs)
ids-typed id p m [] = refl
ids-typed id p m (c ∷ cs) = ap (λ l. id ∷ l) (ids-typed (later id 1) (After id) (m / 2) cs)

ids-append : (x y : List Element) → ids_of (x ++ y) ≡ ids_of x ++ ids_of y
ids-append [] y = refl
ids-append (e ∷ x) y = ap (λ l. e.id ∷ l) (ids-append x y)

pub ids-row : (chars : List ℕ) (ss : List Stretch) → are_stored (length chars) ss ≡ true → ids_of (elements_in chars ss) ≡ ids_in ss
ids-row chars [] h = refl
ids-row chars (s ∷ ss) h =
    let p = and_parts (is_stored (length chars) s) (are_stored (length chars) ss) h in
    let here : ids_of (elements_of chars s) ≡ ids_from s.first s.count = ids-typed s.first s.parent s.hidden (characters_of chars s) ∙ ap (ids_from s.first) (length-characters chars s p.0) in
    ids-append (elements_of chars s) (elements_in chars ss) ∙ (λ i. here i ++ ids-row chars ss p.1 i)

pub apart_of : (chars : List ℕ) (ss : List Stretch) → are_stored (length chars) ss ≡ true → is_distinct (ids_of (elements_in chars ss)) ≡ true → AreApart ss
apart_of chars ss h distinct = ap is_distinct (sym (ids-row chars ss h)) ∙ distinct

-- ---- parted

ids_from-part : (id : Identifier) (k n : ℕ) → ids_from id (k + n) ≡ ids_from id k ++ ids_from (later id k) n
ids_from-part id zero n = let e : 0 + n ≡ n = omega arith in ap (ids_from id) e ∙ ap (λ q. ids_from q n) (sym (later-none id))
ids_from-part id (suc k) n =
    let e : suc k + n ≡ suc (k + n) = omega arith in
    let more = later-more id 1 k (suc k) (omega arith) in
    ap (ids_from id) e ∙ ap (λ l. id ∷ l) (ids_from-part (later id 1) k n ∙ ap (λ q. ids_from (later id 1) k ++ ids_from q n) more)

-- a stretch in two has the same identifiers
pub ids-parted : (ss : List Stretch) (p : ℕ) (d low rest : Stretch) → p < length ss → low.first ≡ (get_or ss p d).first → rest.first ≡ later (get_or ss p d).first low.count → low.count + rest.count ≡ (get_or ss p d).count
    → ids_in (insert (set ss p low) (p + 1) rest) ≡ ids_in ss
ids-parted ss p d low rest there first next count = let e : p + 1 ≡ suc p = omega arith in rw e (by_row ss p there first next count) where
  by_row : (ss : List Stretch) (p : ℕ) → p < length ss → low.first ≡ (get_or ss p d).first → rest.first ≡ later (get_or ss p d).first low.count → low.count + rest.count ≡ (get_or ss p d).count
      → ids_in (insert (set ss p low) (suc p) rest) ≡ ids_in ss
  by_row [] p there first next count = absurd (omega arith)
  by_row (s ∷ ss) zero there first next count =
      (λ i. ids_from (first i) low.count ++ (ids_from (next i) rest.count ++ ids_in ss))
      ∙ sym (append_assoc (ids_from s.first low.count) (ids_from (later s.first low.count) rest.count) (ids_in ss))
      ∙ ap (λ l. l ++ ids_in ss) (sym (ids_from-part s.first low.count rest.count) ∙ ap (ids_from s.first) count)
  by_row (s ∷ ss) (suc p) there first next count = ap (λ l. ids_from s.first s.count ++ l) (by_row ss p (omega arith) first next count)

-- ---- what is outside

abbrev pub among : Identifier → List Identifier → Bool
among q ids = list_any (same_id q) ids

pub among_from : (id : Identifier) (n k : ℕ) → k < n → among (later id k) (ids_from id n) ≡ true
among_from id zero k less = absurd (omega arith)
among_from id (suc n) zero less = or_left (same_id (later id 0) id) (among (later id 0) (ids_from (later id 1) n)) (ap (λ q. same_id q id) (later-none id) ∙ same_id-itself id)
among_from id (suc n) (suc k) less =
    let more = later-more id 1 k (suc k) (omega arith) in
    or_right (same_id (later id (suc k)) id) (among (later id (suc k)) (ids_from (later id 1) n)) (ap (λ q. among q (ids_from (later id 1) n)) (sym more) ∙ among_from (later id 1) n k (omega arith))

-- no identifier is in two parts of a distinct list
distinct-apart : (x y : List Identifier) → is_distinct (x ++ y) ≡ true → ((q : Identifier) → among q x ≡ true → among q y ≡ true → ⊥) × (is_distinct y ≡ true)
distinct-apart [] y d = ((λ q a b. absurd cc), d)
distinct-apart (e ∷ x) y d =
    let p = and_parts (not (among e (x ++ y))) (is_distinct (x ++ y)) d in
    let rest = distinct-apart x y p.1 in
    let none : among e (x ++ y) ≡ false = not-true (among e (x ++ y)) p.0 in
    let parts = or_parts (among e x) (among e y) (sym (list_any-append (same_id e) x y) ∙ none) in
    ((λ q a b. by_first q (same_id q e) refl a b parts.1 rest.0), rest.1) where
      by_first : (q : Identifier) (t : Bool) → same_id q e ≡ t → (t || among q x) ≡ true → among q y ≡ true → among e y ≡ false → ((q : Identifier) → among q x ≡ true → among q y ≡ true → ⊥) → ⊥
      by_first q true is a b out apart = let in_y : among e y ≡ true = subst (λ k. among k y ≡ true) (same_id-is q e is) b in absurd cc
      by_first q false is a b out apart = apart q a b

-- one that stands in a row of stretches
pub among_row : (ss : List Stretch) (p k : ℕ) (d : Stretch) → p < length ss → k < (get_or ss p d).count → among (later (get_or ss p d).first k) (ids_in ss) ≡ true
among_row [] p k d there less = absurd (omega arith)
among_row (s ∷ ss) zero k d there less =
    list_any-append (same_id (later s.first k)) (ids_from s.first s.count) (ids_in ss) ∙ or_left (among (later s.first k) (ids_from s.first s.count)) (among (later s.first k) (ids_in ss)) (among_from s.first s.count k less)
among_row (s ∷ ss) (suc p) k d there less =
    let q = later (get_or ss p d).first k in
    list_any-append (same_id q) (ids_from s.first s.count) (ids_in ss) ∙ or_right (among q (ids_from s.first s.count)) (among q (ids_in ss)) (among_row ss p k d (omega arith) less)

outside_rest : (q : Identifier) (ss : List Stretch) → (among q (ids_in ss) ≡ true → ⊥) → All (IsOutside q) ss
outside_rest q ss none = λ p d there k less is. none (ap (λ z. among z (ids_in ss)) is ∙ among_row ss p k d there less)

-- what one stretch has is outside those before it and behind it
pub outside_others : (a b : List Stretch) (s : Stretch) (k : ℕ) → AreApart (a ++ s ∷ b) → k < s.count → All (IsOutside (later s.first k)) a × All (IsOutside (later s.first k)) b
outside_others [] b s k apart less =
    let d = distinct-apart (ids_from s.first s.count) (ids_in b) apart in
    ((λ p d there. absurd (omega arith)), outside_rest (later s.first k) b (λ inside. d.0 (later s.first k) (among_from s.first s.count k less) inside))
outside_others (t ∷ a) b s k apart less =
    let q = later s.first k in
    let d = distinct-apart (ids_from t.first t.count) (ids_in (a ++ s ∷ b)) apart in
    let rest = outside_others a b s k d.1 less in
    let inside : among q (ids_in (a ++ s ∷ b)) ≡ true =
    ap (among q) (flat_map-append (λ (s : Stretch). ids_from s.first s.count) a (s ∷ b)) ∙ list_any-append (same_id q) (ids_in a) (ids_in (s ∷ b))
    ∙ or_right (among q (ids_in a)) (among q (ids_in (s ∷ b))) (among_row (s ∷ b) 0 k s (omega arith) less) in
    let first : IsOutside q t = λ m small is. d.0 q (ap (λ z. among z (ids_from t.first t.count)) is ∙ among_from t.first t.count m small) inside in
    (All-cons (IsOutside q) t a first rest.0, rest.1)

-- ---- a part of a row

distinct-front : (x y : List Identifier) → is_distinct (x ++ y) ≡ true → is_distinct x ≡ true
distinct-front [] y d = refl
distinct-front (e ∷ x) y d =
    let p = and_parts (not (among e (x ++ y))) (is_distinct (x ++ y)) d in
    let parts = or_parts (among e x) (among e y) (sym (list_any-append (same_id e) x y) ∙ not-true (among e (x ++ y)) p.0) in
    and_from (not (among e x)) (is_distinct x) (ap not parts.0) (distinct-front x y p.1)

ids_in-append : (a b : List Stretch) → ids_in (a ++ b) ≡ ids_in a ++ ids_in b
ids_in-append a b = flat_map-append (λ (s : Stretch). ids_from s.first s.count) a b

pub apart_front : (a b : List Stretch) → AreApart (a ++ b) → AreApart a
apart_front a b apart = distinct-front (ids_in a) (ids_in b) (ap is_distinct (sym (ids_in-append a b)) ∙ apart)

pub apart_back : (a b : List Stretch) → AreApart (a ++ b) → AreApart b
apart_back a b apart = (distinct-apart (ids_in a) (ids_in b) (ap is_distinct (sym (ids_in-append a b)) ∙ apart)).1

-- the upper part of a block
pub apart_upper : (xs : List (List Stretch)) (q n : ℕ) → q < length xs → AreApart (row_of xs) → AreApart (drop n (get_or xs q []))
apart_upper xs q n there apart =
    let x = get_or xs q [] in
    let behind = row_of (drop (suc q) xs) in
    let block : AreApart x = apart_front x behind (apart_back (row_of (take q xs)) (x ++ behind) (subst AreApart (row_around xs q there) apart)) in
    apart_back (take n x) (drop n x) (subst AreApart (sym (take-append-drop n x)) block)

-- no two stretches begin with one identifier
pub one_first : (ss : List Stretch) (p q : ℕ) (d : Stretch) → AreApart ss → p < length ss → q < length ss → (get_or ss p d).first ≡ (get_or ss q d).first → p ≡ q
one_first [] p q d apart hp hq same = absurd (omega (arith, hp))
one_first (s ∷ ss) zero zero d apart hp hq same = refl
one_first (s ∷ ss) zero (suc q) d apart hp hq same =
    let parts = distinct-apart (ids_from s.first s.count) (ids_in ss) apart in
    let mine = s.some in
    let its = (get_or ss q d).some in
    absurd (parts.0 (later s.first 0) (among_from s.first s.count 0 mine) (ap (λ f. among (later f 0) (ids_in ss)) same ∙ among_row ss q 0 d (omega (arith, hq)) its))
one_first (s ∷ ss) (suc p) zero d apart hp hq same =
    let parts = distinct-apart (ids_from s.first s.count) (ids_in ss) apart in
    let mine = s.some in
    let its = (get_or ss p d).some in
    absurd (parts.0 (later s.first 0) (among_from s.first s.count 0 mine) (ap (λ f. among (later f 0) (ids_in ss)) (sym same) ∙ among_row ss p 0 d (omega (arith, hp)) its))
one_first (s ∷ ss) (suc p) (suc q) d apart hp hq same =
    ap suc (one_first ss p q d (distinct-apart (ids_from s.first s.count) (ids_in ss) apart).1 (omega (arith, hp)) (omega (arith, hq)) same)
