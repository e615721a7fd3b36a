-- Stretches as a row of elements in parts.
use Rattle.std.proofs.Common.{◌≡◌, ℕ, zero, suc, ◌<◌, ◌≤◌, ◌+◌, ◌-◌, Bool, true, false, cond, not, ◌||◌, List, [], ◌∷◌, ◌++◌, length, take, drop, get_or, Some, refl, sym, ap, ◌∙◌, length-append, length-drop, arith}
use Rattle.std.proofs.Math.Nat.{min-le_left}
use Rattle.std.proofs.lemmas.Bool.{ltb-true, ltb-false, and_parts, and_from, not-true}
use Rattle.std.proofs.lemmas.List.{length-map, map-set, drop_all, take_all, drop_at, get_or-map, take-map, drop-map, length-take, length-take-le, take-append-le, drop-append-le, take-append-drop}
use Rattle.std.proofs.lemmas.List.Sums.{sum_by-cons}
use Rattle.std.proofs.lemmas.List.Folds.{list_any-append}
use Rattle.std.proofs.lemmas.List.Elements.{All-head, All-tail}
use Rattle.std.specs.Prelude.{nat_lt, insert, set, slice_get, All}
use Rattle.std.specs.FinMap as map
use Rattle.std.specs.Ordering.{is_lt}
use Rattle.std.specs.List.{prefix_len}
use Rattle.bg_types.specs.Identifier.{Identifier, id_cmp}
use Rattle.bg_types.specs.declared.op.Place.{Place}
use Rattle.bg_types.specs.declared.op.Place.TheVariants.{Root, After}
use Rattle.rga_tree.specs.declared.element.Element.{Element}
use Rattle.rga_tree.specs.Row.{operations_of, has}
use Rattle.rga_tree.specs.Spot.{seen, seen_all, joined, offset}
use Rattle.rga_tree.specs.Tree.{stands_in}
use Rattle.rga_tree.proofs.Interface.{has_row, until, until_none, until-first, is_greater, pre_all, joined-add}
use Rattle.rga_runs.specs.declared.stretch.Stretch.{Stretch}
use Rattle.rga_runs.specs.Typed.{later, typed, parent_at, is_odd, bits_from, unset}
use Rattle.rga_runs.specs.Changed.{IsGrown, IsLone, IsHidden}
use Rattle.rga_runs.specs.Stretches.{characters_of, elements_of, parts_in, elements_in, is_stored, are_stored, count_in, visible_in, IsOutside, IsPlaced, visible_of}
use Rattle.rga_runs.proofs.Bits.{unset_le}
use Rattle.rga_runs.proofs.Chunks.{map-insert}
use Rattle.rga_runs.proofs.Typed.{typed-length, typed-get, typed-take, typed-drop, typed-append, typed-until, typed-outside, typed-greater, typed-less, typed_seen, typed_hidden}

-- ---- what is stored

pub stored_le : (n : ℕ) (s : Stretch) → is_stored n s ≡ true → s.start + s.count ≤ n
stored_le n s h = ltb-false n (s.start + s.count) (not-true (nat_lt n (s.start + s.count)) h)

pub stored_is : (n : ℕ) (s : Stretch) → s.start + s.count ≤ n → is_stored n s ≡ true
stored_is n s h = by_test (nat_lt n (s.start + s.count)) refl where
  by_test : (b : Bool) → nat_lt n (s.start + s.count) ≡ b → is_stored n s ≡ true
  by_test true is = let more = ltb-true n (s.start + s.count) is in absurd (omega (arith, more, h))
  by_test false is = ap not is

pub stored_at : (n : ℕ) (ss : List Stretch) (p : ℕ) (d : Stretch) → are_stored n ss ≡ true → p < length ss → is_stored n (get_or ss p d) ≡ true
stored_at n [] p d h there = absurd (omega arith)
stored_at n (s ∷ ss) zero d h there = (and_parts (is_stored n s) (are_stored n ss) h).0
stored_at n (s ∷ ss) (suc p) d h there = stored_at n ss p d (and_parts (is_stored n s) (are_stored n ss) h).1 (omega arith)

pub stored_more : (n m : ℕ) (ss : List Stretch) → n ≤ m → are_stored n ss ≡ true → are_stored m ss ≡ true
stored_more n m [] le h = refl
stored_more n m (s ∷ ss) le h =
    let p = and_parts (is_stored n s) (are_stored n ss) h in
    let less = stored_le n s p.0 in
    and_from (is_stored m s) (are_stored m ss) (stored_is m s (omega (arith, less, le))) (stored_more n m ss le p.1)

-- ---- how many elements

pub length-characters : (chars : List ℕ) (s : Stretch) → is_stored (length chars) s ≡ true → length (characters_of chars s) ≡ s.count
length-characters chars s h = let less = stored_le (length chars) s h in length-take-le s.count (drop s.start chars) (omega (arith, length-drop s.start chars, less))

pub length-elements : (chars : List ℕ) (s : Stretch) → is_stored (length chars) s ≡ true → length (elements_of chars s) ≡ s.count
length-elements chars s h = typed-length s.first s.parent s.hidden (characters_of chars s) ∙ length-characters chars s h

pub length-parts : (chars : List ℕ) (ss : List Stretch) → length (parts_in chars ss) ≡ length ss
length-parts chars ss = length-map ss (elements_of chars)

pub part_there : (chars : List ℕ) (ss : List Stretch) (p : ℕ) (d : Stretch) → p < length ss → get_or (parts_in chars ss) p [] ≡ elements_of chars (get_or ss p d)
part_there chars ss p d there = get_or-map (elements_of chars) ss p d [] there

pub part_long : (chars : List ℕ) (ss : List Stretch) (p : ℕ) (d : Stretch) → are_stored (length chars) ss ≡ true → p < length ss → length (get_or (parts_in chars ss) p []) ≡ (get_or ss p d).count
part_long chars ss p d h there = ap length (part_there chars ss p d there) ∙ length-elements chars (get_or ss p d) (stored_at (length chars) ss p d h there)

pub length-row : (chars : List ℕ) (ss : List Stretch) → are_stored (length chars) ss ≡ true → length (elements_in chars ss) ≡ count_in ss
length-row chars [] h = refl
length-row chars (s ∷ ss) h =
    let p = and_parts (is_stored (length chars) s) (are_stored (length chars) ss) h in
    let here = length-elements chars s p.0 in
    let rest = length-row chars ss p.1 in
    length-append (elements_of chars s) (elements_in chars ss) ∙ (λ i. here i + rest i) ∙ sym (sum_by-cons (λ (s : Stretch). s.count) s ss)

-- each stretch has at least one
pub length_counted : (ss : List Stretch) → length ss ≤ count_in ss
length_counted [] = omega arith
length_counted (s ∷ ss) = let some = s.some in omega (arith, length_counted ss, sum_by-cons (λ (s : Stretch). s.count) s ss, some)

-- ---- where an identifier stands

few_characters : (chars : List ℕ) (n m : ℕ) → length (take n (drop m chars)) ≤ n
few_characters chars n m = omega (arith, length-take n (drop m chars), min-le_left n (length (drop m chars)))

outside_part : (q : Identifier) (chars : List ℕ) (s : Stretch) → IsOutside q s → has q (elements_of chars s) ≡ false
outside_part q chars s out = typed-outside q s.first s.parent s.hidden (characters_of chars s) (λ k w is. out k (omega (arith, w, few_characters chars s.count s.start)) is)

pub outside_row : (q : Identifier) (chars : List ℕ) (ss : List Stretch) → All (IsOutside q) ss → has q (elements_in chars ss) ≡ false
outside_row q chars [] out = refl
outside_row q chars (s ∷ ss) out =
    list_any-append (λ e. _) (elements_of chars s) (elements_in chars ss)
    ∙ (λ i. outside_part q chars s (All-head (IsOutside q) s ss out) i || outside_row q chars ss (All-tail (IsOutside q) s ss out) i)

-- where a character's identifier stands in its stretch
pub part_until : (q : Identifier) (chars : List ℕ) (ss : List Stretch) (p k : ℕ) (d : Stretch) → are_stored (length chars) ss ≡ true → p < length ss → k < (get_or ss p d).count → q ≡ later (get_or ss p d).first k
    → until q (get_or (parts_in chars ss) p []) ≡ k
part_until q chars ss p k d h there within is =
    let s = get_or ss p d in
    let long = length-characters chars s (stored_at (length chars) ss p d h there) in
    ap (until q) (part_there chars ss p d there) ∙ ap (λ j. until j (elements_of chars s)) is ∙ typed-until s.first s.parent s.hidden (characters_of chars s) k (omega (arith, long, within))

pub until_has : (q : Identifier) (es : List Element) → until q es < length es → has q es ≡ true
until_has q es less = by_test (has q es) refl where
  by_test : (b : Bool) → has q es ≡ b → has q es ≡ true
  by_test true is = is
  by_test false is = let all = until_none q es is in absurd (omega (arith, all, less))

pub spot_until : (q : Identifier) (chars : List ℕ) (ss : List Stretch) (p k : ℕ) (d : Stretch) → are_stored (length chars) ss ≡ true → p < length ss → k < (get_or ss p d).count → q ≡ later (get_or ss p d).first k
    → All (IsOutside q) (take p ss) → offset (parts_in chars ss) p k ≡ until q (elements_in chars ss)
spot_until q chars ss p k d h there within is before =
    let xs = parts_in chars ss in
    let at = part_until q chars ss p k d h there within is in
    let long = part_long chars ss p d h there in
    let inside = until_has q (get_or xs p []) (omega (arith, at, long, within)) in
    let none : has q (joined (take p xs)) ≡ false = ap (λ ys. has q (joined ys)) (take-map (elements_of chars) p ss) ∙ outside_row q chars (take p ss) before in
    ap (offset xs p) (sym at) ∙ until-first xs p q (omega (arith, length-parts chars ss, there)) inside none

-- ---- stretches that begin with a greater identifier are passed

abbrev begins_greater : Identifier → Stretch → Bool
begins_greater id s = is_lt (id_cmp id s.first)

pub passed : (id : Identifier) (chars : List ℕ) (ss : List Stretch) → are_stored (length chars) ss ≡ true
    → length (joined (take (prefix_len (λ s. is_lt (id_cmp id s.first)) ss) (parts_in chars ss))) ≡ prefix_len (is_greater id) (elements_in chars ss)
passed id chars [] h = refl
passed id chars (s ∷ ss) h =
    let stored = and_parts (is_stored (length chars) s) (are_stored (length chars) ss) h in
    by_test stored.0 (passed id chars ss stored.1) (begins_greater id s) refl where
      xs : List (List Element)
      xs = parts_in chars ss

      n : ℕ
      n = prefix_len (begins_greater id) ss

      by_test : is_stored (length chars) s ≡ true → length (joined (take n xs)) ≡ prefix_len (is_greater id) (joined xs) → (b : Bool) → begins_greater id s ≡ b
          → length (joined (take (cond (begins_greater id s) (1 + n) 0) (elements_of chars s ∷ xs))) ≡ prefix_len (is_greater id) (elements_of chars s ++ joined xs)
      by_test stored rest true is =
          let one_more : 1 + n ≡ suc n = omega arith in
          let all : prefix_len (is_greater id) (elements_of chars s) ≡ length (elements_of chars s) = typed-greater id s.first s.parent s.hidden (characters_of chars s) is ∙ sym (typed-length s.first s.parent s.hidden (characters_of chars s)) in
          ap (λ b. length (joined (take (cond b (1 + n) 0) (elements_of chars s ∷ xs)))) is
          ∙ ap (λ m. length (joined (take m (elements_of chars s ∷ xs)))) one_more
          ∙ length-append (elements_of chars s) (joined (take n xs))
          ∙ ap (λ m. length (elements_of chars s) + m) rest
          ∙ sym (pre_all (is_greater id) (elements_of chars s) (joined xs) all)
      by_test stored rest false is =
          let some = s.some in
          let long = length-characters chars s stored in
          ap (λ b. length (joined (take (cond b (1 + n) 0) (elements_of chars s ∷ xs)))) is
          ∙ sym (typed-less id s.first s.parent s.hidden (characters_of chars s) (joined xs) (omega (arith, some, long)) is)

-- ---- a further character

pub part_kept : (chars more : List ℕ) (s : Stretch) → is_stored (length chars) s ≡ true → elements_of (chars ++ more) s ≡ elements_of chars s
part_kept chars more s h =
    let less = stored_le (length chars) s h in
    ap (λ cs. typed s.first s.parent s.hidden (take s.count cs)) (drop-append-le s.start chars more (omega (arith, less)))
    ∙ ap (typed s.first s.parent s.hidden) (take-append-le s.count (drop s.start chars) more (omega (arith, less, length-drop s.start chars)))

pub parts_kept : (chars more : List ℕ) (ss : List Stretch) → are_stored (length chars) ss ≡ true → parts_in (chars ++ more) ss ≡ parts_in chars ss
parts_kept chars more [] h = refl
parts_kept chars more (s ∷ ss) h =
    let p = and_parts (is_stored (length chars) s) (are_stored (length chars) ss) h in
    λ i. part_kept chars more s p.0 i ∷ parts_kept chars more ss p.1 i

-- ---- a stretch that is changed, and one more

pub stored_set : (n : ℕ) (ss : List Stretch) (p : ℕ) (new : Stretch) → are_stored n ss ≡ true → is_stored n new ≡ true → are_stored n (set ss p new) ≡ true
stored_set n [] p new h is = refl
stored_set n (s ∷ ss) zero new h is = and_from (is_stored n new) (are_stored n ss) is (and_parts (is_stored n s) (are_stored n ss) h).1
stored_set n (s ∷ ss) (suc p) new h is =
    let parts = and_parts (is_stored n s) (are_stored n ss) h in
    and_from (is_stored n s) (are_stored n (set ss p new)) parts.0 (stored_set n ss p new parts.1 is)

pub parts_set : (chars : List ℕ) (ss : List Stretch) (p : ℕ) (new : Stretch) → parts_in chars (set ss p new) ≡ set (parts_in chars ss) p (elements_of chars new)
parts_set chars ss p new = map-set (elements_of chars) ss p new

stored_with : (n : ℕ) (l r : List Stretch) (new : Stretch) → are_stored n (l ++ r) ≡ true → is_stored n new ≡ true → are_stored n (l ++ new ∷ r) ≡ true
stored_with n [] r new h is = and_from (is_stored n new) (are_stored n r) is h
stored_with n (s ∷ l) r new h is =
    let parts = and_parts (is_stored n s) (are_stored n (l ++ r)) h in
    and_from (is_stored n s) (are_stored n (l ++ new ∷ r)) parts.0 (stored_with n l r new parts.1 is)

pub stored_insert : (n : ℕ) (ss : List Stretch) (p : ℕ) (new : Stretch) → are_stored n ss ≡ true → is_stored n new ≡ true → are_stored n (insert ss p new) ≡ true
stored_insert n ss p new h is = stored_with n (take p ss) (drop p ss) new (ap (are_stored n) (take-append-drop p ss) ∙ h) is

pub parts_insert : (chars : List ℕ) (ss : List Stretch) (p : ℕ) (new : Stretch) → parts_in chars (insert ss p new) ≡ insert (parts_in chars ss) p (elements_of chars new)
parts_insert chars ss p new = map-insert (elements_of chars) ss p new

-- what follows in a stretch from a greater identifier on is greater
pub rest_passes : (id : Identifier) (chars : List ℕ) (ss : List Stretch) (p k : ℕ) (d : Stretch) → are_stored (length chars) ss ≡ true → p < length ss
    → (k < (get_or ss p d).count → is_lt (id_cmp id (later (get_or ss p d).first k)) ≡ true)
    → prefix_len (is_greater id) (drop k (get_or (parts_in chars ss) p [])) ≡ length (drop k (get_or (parts_in chars ss) p []))
rest_passes id chars ss p k d h there greater =
    ap (λ es. prefix_len (is_greater id) (drop k es)) part ∙ by_test (nat_lt k s.count) refl ∙ sym (ap (λ es. length (drop k es)) part) where
      s : Stretch
      s = get_or ss p d

      cs : List ℕ
      cs = characters_of chars s

      part : get_or (parts_in chars ss) p [] ≡ elements_of chars s
      part = part_there chars ss p d there

      by_test : (b : Bool) → nat_lt k s.count ≡ b → prefix_len (is_greater id) (drop k (elements_of chars s)) ≡ length (drop k (elements_of chars s))
      by_test true is =
          let lt = greater (ltb-true k s.count is) in
          let rest = typed-drop s.first s.parent s.hidden cs k in
          ap (prefix_len (is_greater id)) (sym rest) ∙ typed-greater id (later s.first k) (parent_at s.first s.parent k) (bits_from k s.hidden) (drop k cs) lt
          ∙ sym (typed-length (later s.first k) (parent_at s.first s.parent k) (bits_from k s.hidden) (drop k cs)) ∙ ap length rest
      by_test false is =
          let none : drop k (elements_of chars s) ≡ [] = drop_all k (elements_of chars s) (omega (arith, length-elements chars s (stored_at (length chars) ss p d h there), ltb-false k s.count is)) in
          ap (prefix_len (is_greater id)) none ∙ sym (ap length none)

stored_drop : (n : ℕ) (ss : List Stretch) (k : ℕ) → are_stored n ss ≡ true → are_stored n (drop k ss) ≡ true
stored_drop n [] zero h = h
stored_drop n [] (suc k) h = h
stored_drop n (s ∷ ss) zero h = h
stored_drop n (s ∷ ss) (suc k) h = stored_drop n ss k (and_parts (is_stored n s) (are_stored n ss) h).1

pub stored_left : (n : ℕ) (l r : List Stretch) → are_stored n (l ++ r) ≡ true → are_stored n l ≡ true
stored_left n [] r h = refl
stored_left n (s ∷ l) r h = let parts = and_parts (is_stored n s) (are_stored n (l ++ r)) h in and_from (is_stored n s) (are_stored n l) parts.0 (stored_left n l r parts.1)

pub stored_right : (n : ℕ) (l r : List Stretch) → are_stored n (l ++ r) ≡ true → are_stored n r ≡ true
stored_right n [] r h = h
stored_right n (s ∷ l) r h = stored_right n l r (and_parts (is_stored n s) (are_stored n (l ++ r)) h).1

-- from a stretch on, those that begin with a greater identifier are passed
pub lands : (id : Identifier) (chars : List ℕ) (ss : List Stretch) (from g : ℕ) → are_stored (length chars) ss ≡ true → g ≡ prefix_len (λ s. is_lt (id_cmp id s.first)) (drop from ss)
    → length (joined (take (from + g) (parts_in chars ss))) ≡ length (joined (take from (parts_in chars ss))) + prefix_len (is_greater id) (joined (drop from (parts_in chars ss)))
lands id chars ss from g stored count =
    let xs = parts_in chars ss in
    let rest : drop from xs ≡ parts_in chars (drop from ss) = drop-map (elements_of chars) from ss in
    let all = passed id chars (drop from ss) (stored_drop (length chars) ss from stored) in
    let here : length (joined (take g (drop from xs))) ≡ prefix_len (is_greater id) (joined (drop from xs)) =
    (λ i. length (joined (take (count i) (rest i)))) ∙ all ∙ ap (λ ys. prefix_len (is_greater id) (joined ys)) (sym rest) in
    joined-add xs from g ∙ ap (λ n. length (joined (take from xs)) + n) here

-- ---- one more character

parent_last : (id : Identifier) (p : Place) (k : ℕ) → 0 < k → parent_at id p k ≡ After (later id (k - 1))
parent_last id p zero some = absurd (omega arith)
parent_last id p (suc k) some = let e : k ≡ suc k - 1 = omega arith in ap (λ n. After (later id n)) e

-- a stretch that takes in the characters behind its last one
pub grown_part : (chars more : List ℕ) (s new : Stretch) (m : ℕ) → IsGrown s new m → bits_from s.count s.hidden ≡ 0 → length chars ≡ s.start + s.count → length more ≡ m
    → elements_of (chars ++ more) new ≡ elements_of chars s ++ typed (later s.first s.count) (After (later s.first (s.count - 1))) 0 more
grown_part chars more s new m is bits end many =
    let cs = drop s.start chars in
    let long : length cs ≡ s.count = omega (arith, length-drop s.start chars, end) in
    let all : take s.count cs ≡ cs = take_all s.count cs (omega (arith, long)) in
    let longer : length (cs ++ more) ≤ s.count + m = omega (arith, length-append cs more, long, many) in
    let characters : take new.count (drop new.start (chars ++ more)) ≡ take s.count cs ++ more =
    (λ i. take (is.count i) (drop (is.start i) (chars ++ more))) ∙ ap (take (s.count + m)) (drop-append-le s.start chars more (omega (arith, end)))
    ∙ take_all (s.count + m) (cs ++ more) longer ∙ ap (λ ds. ds ++ more) (sym all) in
    let some = s.some in
    let count : length (take s.count cs) ≡ s.count = ap length all ∙ long in
    let last : parent_at s.first s.parent (length (take s.count cs)) ≡ After (later s.first (s.count - 1)) = ap (parent_at s.first s.parent) count ∙ parent_last s.first s.parent s.count some in
    let marks : bits_from (length (take s.count cs)) s.hidden ≡ 0 = ap (λ k. bits_from k s.hidden) count ∙ bits in
    (λ i. typed (is.first i) (is.parent i) (is.hidden i) (characters i))
    ∙ typed-append s.first s.parent s.hidden (take s.count cs) more
    ∙ (λ i. typed s.first s.parent s.hidden (take s.count cs) ++ typed (later s.first (count i)) (last i) (marks i) more)

marked : (b : Bool) → is_odd (cond b 1 0) ≡ b
marked true = refl
marked false = refl

pub lone_part : (chars : List ℕ) (new : Stretch) (n : Element) → IsLone new n.id n.parent (length chars) n.hidden
    → elements_of (chars ++ n.ch ∷ []) new ≡ n ∷ []
lone_part chars new n is =
    let characters : take new.count (drop new.start (chars ++ n.ch ∷ [])) ≡ n.ch ∷ [] =
    (λ i. take (is.count i) (drop (is.start_is i) (chars ++ n.ch ∷ []))) ∙ ap (take 1) (drop_at chars (n.ch ∷ []) (length chars) refl) in
    (λ i. typed (is.first i) (is.parent_is i) (is.hidden_is i) (characters i))
    ∙ (λ i. record { id = n.id; parent = n.parent; ch = n.ch; hidden = marked n.hidden i } ∷ [])

-- ---- what stands

pub is_placed : (chars : List ℕ) (ss : List Stretch) (q : Identifier) → map.contains_key (operations_of (elements_in chars ss)).ins q ≡ true → All (IsOutside q) ss → ⊥
is_placed chars ss q stands out =
    let has_it = has_row (elements_in chars ss) q in
    let none = outside_row q chars ss out in
    absurd cc

pub parent_placed : (chars : List ℕ) (ss : List Stretch) (p : Place) → stands_in (operations_of (elements_in chars ss)) p ≡ true → IsPlaced p ss
parent_placed chars ss Root stands = tt
parent_placed chars ss (After q) stands = is_placed chars ss q stands

stored_take : (n : ℕ) (ss : List Stretch) (k : ℕ) → are_stored n ss ≡ true → are_stored n (take k ss) ≡ true
stored_take n [] zero h = refl
stored_take n [] (suc k) h = refl
stored_take n (s ∷ ss) zero h = refl
stored_take n (s ∷ ss) (suc k) h =
    let parts = and_parts (is_stored n s) (are_stored n ss) h in
    and_from (is_stored n s) (are_stored n (take k ss)) parts.0 (stored_take n ss k parts.1)

-- how many elements stand before a stretch
pub count_before : (chars : List ℕ) (ss : List Stretch) (p : ℕ) → are_stored (length chars) ss ≡ true → length (joined (take p (parts_in chars ss))) ≡ count_in (take p ss)
count_before chars ss p h = ap (λ xs. length (joined xs)) (take-map (elements_of chars) p ss) ∙ length-row chars (take p ss) (stored_take (length chars) ss p h)

-- ---- what is visible

pub seen_part : (chars : List ℕ) (s : Stretch) → is_stored (length chars) s ≡ true → seen (elements_of chars s) ≡ visible_of s
seen_part chars s h = typed_seen s.first s.parent s.hidden (characters_of chars s) ∙ ap (λ n. unset n s.hidden) (length-characters chars s h)

pub seen_row : (chars : List ℕ) (ss : List Stretch) → are_stored (length chars) ss ≡ true → seen_all (parts_in chars ss) ≡ visible_in ss
seen_row chars [] h = refl
seen_row chars (s ∷ ss) h =
    let p = and_parts (is_stored (length chars) s) (are_stored (length chars) ss) h in
    (λ i. seen_part chars s p.0 i + seen_row chars ss p.1 i) ∙ sym (sum_by-cons visible_of s ss)

pub seen_front : (chars : List ℕ) (ss : List Stretch) (p : ℕ) → are_stored (length chars) ss ≡ true → seen_all (take p (parts_in chars ss)) ≡ visible_in (take p ss)
seen_front chars ss p h = ap seen_all (take-map (elements_of chars) p ss) ∙ seen_row chars (take p ss) (stored_take (length chars) ss p h)

pub visible_le : (ss : List Stretch) → visible_in ss ≤ count_in ss
visible_le [] = omega arith
visible_le (s ∷ ss) =
    omega (arith, visible_le ss, unset_le s.count s.hidden, sum_by-cons visible_of s ss, sum_by-cons (λ (s : Stretch). s.count) s ss)

-- how many of the first k elements of a stretch are visible
pub seen_in_part : (chars : List ℕ) (ss : List Stretch) (p k : ℕ) (d : Stretch) → are_stored (length chars) ss ≡ true → p < length ss → k ≤ (get_or ss p d).count
    → seen (take k (get_or (parts_in chars ss) p [])) ≡ unset k (get_or ss p d).hidden
seen_in_part chars ss p k d h there within =
    let s = get_or ss p d in
    let cs = characters_of chars s in
    let long : length (take k cs) ≡ k = length-take-le k cs (omega (arith, length-characters chars s (stored_at (length chars) ss p d h there), within)) in
    ap (λ es. seen (take k es)) (part_there chars ss p d there) ∙ ap seen (sym (typed-take s.first s.parent s.hidden cs k))
    ∙ typed_seen s.first s.parent s.hidden (take k cs) ∙ ap (λ n. unset n s.hidden) long

-- the element at a place of a stretch
pub element_at : (chars : List ℕ) (s : Stretch) (k : ℕ) → is_stored (length chars) s ≡ true → k < s.count
    → slice_get (elements_of chars s) k ≡ Some (record { id = later s.first k; parent = parent_at s.first s.parent k; ch = get_or (characters_of chars s) k 0; hidden = is_odd (bits_from k s.hidden) })
element_at chars s k h within = typed-get s.first s.parent s.hidden (characters_of chars s) k 0 (omega (arith, length-characters chars s h, within))

pub some_of_get : (es : List Element) (k : ℕ) (d e : Element) → slice_get es k ≡ Some e → get_or es k d ≡ e
some_of_get [] k d e h = absurd cc
some_of_get (x ∷ es) zero d e h = cc
some_of_get (x ∷ es) (suc k) d e h = some_of_get es k d e h

-- whether it is hidden
pub hidden_at : (chars : List ℕ) (s : Stretch) (k : ℕ) (d : Element) → is_stored (length chars) s ≡ true → k < s.count → (get_or (elements_of chars s) k d).hidden ≡ is_odd (bits_from k s.hidden)
hidden_at chars s k d h within = ap (λ (e : Element). e.hidden) (some_of_get (elements_of chars s) k d _ (element_at chars s k h within))

-- a stretch with a character hidden
pub hidden_part : (chars : List ℕ) (s new : Stretch) (k : ℕ) (d : Element) → is_stored (length chars) s ≡ true → k < s.count → is_odd (bits_from k s.hidden) ≡ false → IsHidden s new k
    → elements_of chars new ≡ set (elements_of chars s) k (record (get_or (elements_of chars s) k d) { hidden = true })
hidden_part chars s new k d h within visible is =
    (λ i. typed (is.first i) (is.parent i) (is.hidden i) (take (is.count i) (drop (is.start i) chars)))
    ∙ typed_hidden s.first s.parent s.hidden (characters_of chars s) k d (omega (arith, length-characters chars s h, within)) visible
