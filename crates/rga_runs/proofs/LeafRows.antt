-- Leaves of keys as one row.
use Rattle.std.proofs.Common.{◌≡◌, ℕ, zero, suc, ◌<◌, ◌≤◌, ◌-◌, Bool, true, false, cond, List, [], ◌∷◌, length, take, drop, get_or, Some, refl, sym, ap, subst, ◌∙◌, length-append, arith}
use Rattle.std.specs.Prelude.{insert, set, nat_lt, vec_len}
use Rattle.std.specs.List.Sorted.{IsNonDecreasingBy}
use Rattle.std.proofs.lemmas.Bool.{ltb-true, ltb-false}
use Rattle.std.proofs.lemmas.List.{length-map, get_or-map, map-set, take-append-drop, take_all}
use Rattle.bg_types.specs.Identifier.{Identifier}
use Rattle.rga_runs.specs.declared.key.Key.{Key}
use Rattle.rga_runs.specs.declared.leaf.Leaf.{Leaf}
use Rattle.rga_runs.specs.Keyed.{rank, look_in, reaches, begins}
use Rattle.rga_runs.specs.Leaves.{keys_of, all_keys}
use Rattle.rga_runs.proofs.Chunks.{row, at, row-suc, at_less, get_or_row, one_there}
use Rattle.rga_runs.proofs.Keyed.{put_look, renew_look, below_front, above_rest, found_none, found_last, set_parts, own_parts, its_first, AreAbove, AreNotAbove}

pub length-keys : (ls : List Leaf) → length (keys_of ls) ≡ length ls
length-keys ls = length-map ls (λ l. l.keys.items)

pub keys_there : (ls : List Leaf) (b : ℕ) (l : Leaf) → b < length ls → get_or (keys_of ls) b [] ≡ (get_or ls b l).keys.items
keys_there ls b l there = get_or-map (λ (l : Leaf). l.keys.items) ls b l [] there

-- those of a leaf that was read
pub keys_at : (ls : List Leaf) (b : ℕ) (l : Leaf) → b < length ls → l ≡ get_or ls b l → get_or (keys_of ls) b [] ≡ l.keys.items
keys_at ls b l there is = keys_there ls b l there ∙ ap (λ (l : Leaf). l.keys.items) (sym is)

-- how many it has
pub keys_len : (ls : List Leaf) (b : ℕ) (l : Leaf) → b < length ls → l ≡ get_or ls b l → vec_len l.keys ≡ length (get_or (keys_of ls) b [])
keys_len ls b l there is = omega (arith, l.keys.ok, ap length (keys_at ls b l there is))

-- a leaf whose keys were changed
pub keys-set : (ls : List Leaf) (b : ℕ) (old new : Leaf) (F : List Key → List Key) → b < length ls → old ≡ get_or ls b old → new.keys.items ≡ F old.keys.items
    → keys_of (set ls b new) ≡ set (keys_of ls) b (F (get_or (keys_of ls) b []))
keys-set ls b old new F there is changed =
    map-set (λ (l : Leaf). l.keys.items) ls b new ∙ ap (set (keys_of ls) b) (changed ∙ ap F (sym (keys_at ls b old there is)))

pub some_keys : (ls : List Leaf) (b : ℕ) → b < length (keys_of ls) → 0 < length (get_or (keys_of ls) b [])
some_keys [] b there = absurd (omega (arith, there))
some_keys (l ∷ ls) zero there = let some = l.some in omega (arith, some, l.keys.ok)
some_keys (l ∷ ls) (suc b) there = some_keys ls b (omega (arith, there))

-- ---- where they begin

pub begins_at : (x : List Key) (d : Key) → 0 < length x → begins x ≡ rank (get_or x 0 d).first
begins_at [] d some = absurd (omega (arith, some))
begins_at (k ∷ x) d some = refl

at_rise : (xs : List (List Key)) (i j : ℕ) → i ≤ j → at xs i 0 ≤ at xs j 0
at_rise [] zero j le = omega arith
at_rise [] (suc i) zero le = absurd (omega (arith, le))
at_rise [] (suc i) (suc j) le = omega arith
at_rise (x ∷ xs) zero j le = omega arith
at_rise (x ∷ xs) (suc i) zero le = absurd (omega (arith, le))
at_rise (x ∷ xs) (suc i) (suc j) le = omega (arith, at_rise xs i j (omega (arith, le)), length-append x (row (take i xs)), length-append x (row (take j xs)))

begins_row : (xs : List (List Key)) (b : ℕ) (d : Key) → b < length xs → 0 < length (get_or xs b []) → begins (get_or xs b []) ≡ rank (get_or (row xs) (at xs b 0) d).first
begins_row xs b d there some = begins_at (get_or xs b []) d some ∙ ap (λ (k : Key). rank k.first) (sym (get_or_row xs b 0 d there some))

pub leaves_rise : (ls : List Leaf) → IsNonDecreasingBy (λ k. rank k.first) (all_keys ls) → IsNonDecreasingBy (λ (l : Leaf). begins l.keys.items) ls
leaves_rise ls rising = λ i j l le less.
    let xs = keys_of ls in
    let there : j < length xs = omega (arith, less, length-keys ls) in
    let before : i < length xs = omega (arith, there, le) in
    let some = some_keys ls j there in
    let d = one_there (get_or xs j []) 0 some in
    let first = begins_row xs i d before (some_keys ls i before) in
    let second = begins_row xs j d there some in
    let step = rising (at xs i 0) (at xs j 0) d (at_rise xs i j le) (at_less xs j 0 there some) in
    omega (arith, first, second, step, ap begins (keys_there ls i l (omega (arith, less, le))), ap begins (keys_there ls j l less))

pub begins_rise : (ls : List Leaf) → IsNonDecreasingBy (λ k. rank k.first) (all_keys ls) → (i j : ℕ) → i ≤ j → j < length ls → begins (get_or (keys_of ls) i []) ≤ begins (get_or (keys_of ls) j [])
begins_rise ls rising i j le less =
    let l = one_there ls j less in
    omega (arith, leaves_rise ls rising i j l le less, ap begins (keys_there ls i l (omega (arith, le, less))), ap begins (keys_there ls j l less))

-- ---- the place behind those that aren't above

pub below_spot : (xs : List (List Key)) (r b j : ℕ) → IsNonDecreasingBy (λ k. rank k.first) (row xs) → b < length xs → j ≤ length (get_or xs b []) → ((i : ℕ) (d : Key) → i < j → rank (get_or (get_or xs b []) i d).first ≤ r)
    → (j ≡ 0 → b ≡ 0) → (i : ℕ) (d : Key) → i < at xs b j → rank (get_or (row xs) i d).first ≤ r
below_spot xs r b zero rising there within below front i d less =
    let first = ap (λ n. length (row (take n xs))) (front refl) in
    absurd (omega (arith, less, first))
below_spot xs r b (suc m) rising there within below front i d less =
    let last = below m d (omega arith) in
    let item = ap (λ (k : Key). rank k.first) (get_or_row xs b m d there (omega (arith, within))) in
    let step = rising i (at xs b m) d (omega (arith, less)) (at_less xs b m there (omega (arith, within))) in
    omega (arith, last, item, step)

pub above_spot : (xs : List (List Key)) (r b j : ℕ) → IsNonDecreasingBy (λ k. rank k.first) (row xs) → b < length xs → j ≤ length (get_or xs b [])
    → ((i : ℕ) (d : Key) → j ≤ i → i < length (get_or xs b []) → r < rank (get_or (get_or xs b []) i d).first) → ((c : ℕ) → b < c → c < length xs → r < begins (get_or xs c []))
    → ((c : ℕ) → c < length xs → 0 < length (get_or xs c [])) → (i : ℕ) (d : Key) → at xs b j ≤ i → i < length (row xs) → r < rank (get_or (row xs) i d).first
above_spot xs r b j rising there within above beyond some i d from less = by_place (nat_lt j (length (get_or xs b []))) refl where
  by_next : (t : Bool) → nat_lt (suc b) (length xs) ≡ t → length (get_or xs b []) ≤ j → r < rank (get_or (row xs) i d).first
  by_next true is past =
      let next = ltb-true (suc b) (length xs) is in
      let begun = begins_row xs (suc b) d next (some (suc b) next) in
      let step = rising (at xs (suc b) 0) i d (omega (arith, row-suc xs b, from, past, within)) less in
      omega (arith, beyond (suc b) (omega arith) next, begun, step)
  by_next false is past =
      let last = ltb-false (suc b) (length xs) is in
      let all = ap (λ l. length (row l)) (take_all (suc b) xs last) in
      absurd (omega (arith, all, row-suc xs b, from, past, within, less))

  by_place : (t : Bool) → nat_lt j (length (get_or xs b [])) ≡ t → r < rank (get_or (row xs) i d).first
  by_place true is =
      let inside = ltb-true j (length (get_or xs b [])) is in
      let here = above j d (omega arith) inside in
      let item = ap (λ (k : Key). rank k.first) (get_or_row xs b j d there inside) in
      let step = rising (at xs b j) i d from less in
      omega (arith, here, item, step)
  by_place false is = by_next (nat_lt (suc b) (length xs)) refl (ltb-false j (length (get_or xs b [])) is)

-- ---- what is found

abbrev pub Gained : List Key → List Key → Identifier → ℕ → Type 0
Gained new old id number = (q : Identifier) → q.counter < 4294967296 → look_in new q ≡ cond (reaches id q (look_in old q)) (Some (id, number)) (look_in old q)

-- with a key more
pub put_keys : (ks : List Key) (n : ℕ) (key : Key) (id : Identifier) (number : ℕ) → key.first ≡ id → key.number ≡ number → n ≤ length ks → ((i : ℕ) (d : Key) → i < n → rank (get_or ks i d).first ≤ rank id)
    → ((i : ℕ) (d : Key) → n ≤ i → i < length ks → rank id < rank (get_or ks i d).first) → Gained (insert ks n key) ks id number
put_keys ks n key id number first is within below above q fits =
    let same = sym first in
    let low = subst (λ f. AreNotAbove (rank f) (take n ks)) same (below_front (rank id) ks n within below) in
    let high = subst (λ f. AreAbove (rank f) (drop n ks)) same (above_rest (rank id) ks n above) in
    put_look (take n ks) (drop n ks) key q fits low high
    ∙ (λ i. cond (reaches (first i) q (look_in (take-append-drop n ks i) q)) (Some (first i, is i)) (look_in (take-append-drop n ks i) q))

-- one is there, where it was found
pub found_some : (ks : List Key) (q : Identifier) (at n : ℕ) → ((i : ℕ) (d : Key) → at ≤ i → i < length ks → rank q < rank (get_or ks i d).first) → look_in ks q ≡ Some (q, n) → 0 < at
found_some ks q at n above there = by_test (nat_lt 0 at) refl where
  by_test : (b : Bool) → nat_lt 0 at ≡ b → 0 < at
  by_test true is = ltb-true 0 at is
  by_test false is =
      let none : at ≤ 0 = ltb-false 0 at is in
      let both = sym (found_none ks q (λ i d low less. above i d (omega (arith, none)) less)) ∙ there in
      absurd cc

-- the key that was found begins with the identifier
pub found_first : (ks : List Key) (id : Identifier) (n number : ℕ) (d : Key) → 0 < n → n ≤ length ks → ((i : ℕ) (d : Key) → i < n → rank (get_or ks i d).first ≤ rank id)
    → ((i : ℕ) (d : Key) → n ≤ i → i < length ks → rank id < rank (get_or ks i d).first) → look_in ks id ≡ Some (id, number) → (get_or ks (n - 1) d).first ≡ id
found_first ks id n number d some within below above there =
    its_first id (get_or ks (n - 1) d) number (sym (found_last ks id n d some within below above) ∙ there)

-- with another number for it
pub renew_keys : (ks : List Key) (n : ℕ) (key : Key) (id : Identifier) (number was : ℕ) → key.first ≡ id → key.number ≡ number → 0 < n → n ≤ length ks → ((i : ℕ) (d : Key) → i < n → rank (get_or ks i d).first ≤ rank id)
    → ((i : ℕ) (d : Key) → n ≤ i → i < length ks → rank id < rank (get_or ks i d).first) → look_in ks id ≡ Some (id, was) → Gained (set ks (n - 1) key) ks id number
renew_keys ks n key id number was first is some within below above there q fits =
    let before : n - 1 < length ks = omega (arith, some, within) in
    let next : suc (n - 1) ≡ n = omega (arith, some) in
    let old = get_or ks (n - 1) key in
    let same : old.first ≡ id = found_first ks id n was key some within below above there in
    let begun = sym first in
    let low = subst (λ f. AreNotAbove (rank f) (take (n - 1) ks)) begun (below_front (rank id) ks (n - 1) (omega (arith, before)) (λ i e less. below i e (omega (arith, less)))) in
    let high = subst (λ f. AreAbove (rank f) (drop (suc (n - 1)) ks)) begun (subst (λ m. AreAbove (rank id) (drop m ks)) (sym next) (above_rest (rank id) ks n above)) in
    ap (λ l. look_in l q) (set_parts ks (n - 1) key before)
    ∙ renew_look (take (n - 1) ks) (drop (suc (n - 1)) ks) old key q (same ∙ begun) fits low high
    ∙ (λ i. let l = sym (own_parts ks (n - 1) key before) i in cond (reaches (first i) q (look_in l q)) (Some (first i, is i)) (look_in l q))

-- a key that keeps the order where another was
pub rising_set : (ks : List Key) (m : ℕ) (key : Key) → ((d : Key) → m < length ks → rank key.first ≡ rank (get_or ks m d).first) → IsNonDecreasingBy (λ k. rank k.first) ks → IsNonDecreasingBy (λ k. rank k.first) (set ks m key)
rising_set ks m key same rising = λ i j d le less.
    let long : length (set ks m key) ≡ length ks = long_set ks m in
    let step = rising i j d le (omega (arith, long, less)) in
    omega (arith, step, kept ks m i d same, kept ks m j d same) where
      long_set : (ks : List Key) (m : ℕ) → length (set ks m key) ≡ length ks
      long_set [] zero = refl
      long_set [] (suc m) = refl
      long_set (k ∷ ks) zero = refl
      long_set (k ∷ ks) (suc m) = ap suc (long_set ks m)

      kept : (ks : List Key) (m i : ℕ) (d : Key) → ((d : Key) → m < length ks → rank key.first ≡ rank (get_or ks m d).first) → rank (get_or (set ks m key) i d).first ≡ rank (get_or ks i d).first
      kept [] zero i d same = refl
      kept [] (suc m) i d same = refl
      kept (k ∷ ks) zero zero d same = same d (omega arith)
      kept (k ∷ ks) zero (suc i) d same = refl
      kept (k ∷ ks) (suc m) zero d same = refl
      kept (k ∷ ks) (suc m) (suc i) d same = kept ks m i d (λ e less. same e (omega (arith, less)))
