-- Lower bounds of the identifiers with which stretches begin.
use Rattle.std.proofs.Common.{◌≡◌, ℕ, zero, suc, ◌<◌, ◌≤◌, ◌+◌, length-append, length-drop, ◌&&◌, Bool, true, false, cond, not, List, [], ◌∷◌, ◌++◌, length, take, drop, get_or, refl, sym, ap, subst, ◌∙◌, arith}
use Rattle.std.specs.Prelude.{insert, set, nat_eq, nat_lt}
use Rattle.rga_runs.proofs.Chunks.{row, at, row-suc, row-add, drop_row}
use Rattle.std.specs.declared.cmp.Ordering.{Ordering}
use Rattle.std.specs.declared.cmp.Ordering.TheVariants.{Less, Equal, Greater}
use Rattle.std.specs.Ordering.{is_lt}
use Rattle.std.specs.Cmp.{tied_itself}
use Rattle.std.specs.List.{prefix_len}
use Rattle.std.proofs.lemmas.Bool.{and_parts, and_from, eqb-true, eqb-false, ltb-true, ltb-false}
use Rattle.std.proofs.lemmas.List.{take-append-drop, get_or-drop}
use Rattle.std.proofs.lemmas.List.Folds.{list_all_more}
use Rattle.bg_types.specs.Identifier.{Identifier, id_cmp}
use Rattle.bg_types.proofs.Interface.{id_cmp-total, id_cmp-exact}
use Rattle.rga_tree.proofs.Interface.{later-less, less_of, turned, pre_all, pre_stop}
use Rattle.rga_runs.specs.declared.stretch.Stretch.{Stretch}
use Rattle.rga_runs.specs.Typed.{later}
use Rattle.rga_runs.specs.Blocks.{none_below, passed}
use Rattle.rga_runs.proofs.Typed.{later-none, later-more}

-- what isn't below the least of greater ones is greater
pub above_least : (id m e : Identifier) → is_lt (id_cmp id m) ≡ true → not (is_lt (id_cmp e m)) ≡ true → is_lt (id_cmp id e) ≡ true
above_least id m e lt h = by_order (id_cmp e m) refl h where
  by_order : (o : Ordering) → id_cmp e m ≡ o → not (is_lt o) ≡ true → is_lt (id_cmp id e) ≡ true
  by_order Less is h = absurd cc
  by_order Equal is h = subst (λ x. is_lt (id_cmp id x) ≡ true) (sym (id_cmp-exact e m is)) lt
  by_order Greater is h = ap is_lt (id_cmp-total.trans id m e (less_of (id_cmp id m) lt) (turned e m is))

pub all_pass : (id m : Identifier) (ss : List Stretch) → is_lt (id_cmp id m) ≡ true → none_below m ss ≡ true → passed id ss ≡ length ss
all_pass id m [] lt h = refl
all_pass id m (s ∷ ss) lt h =
    let p = and_parts (not (is_lt (id_cmp s.first m))) (none_below m ss) h in
    ap (λ b. cond b (1 + passed id ss) 0) (above_least id m s.first lt p.0) ∙ omega (arith, all_pass id m ss lt p.1)

-- what isn't below something isn't below what is smaller
not_below : (x m n : Identifier) → not (is_lt (id_cmp x m)) ≡ true → is_lt (id_cmp n m) ≡ true → not (is_lt (id_cmp x n)) ≡ true
not_below x m n h lt = by_test (is_lt (id_cmp x n)) refl where
  by_test : (b : Bool) → is_lt (id_cmp x n) ≡ b → not b ≡ true
  by_test false is = refl
  by_test true is = let e : is_lt (id_cmp x m) ≡ true = ap is_lt (id_cmp-total.trans x n m (less_of (id_cmp x n) is) (less_of (id_cmp n m) lt)) in absurd cc

-- a lesser bound
pub lower : (m n : Identifier) (ss : List Stretch) → none_below m ss ≡ true → is_lt (id_cmp n m) ≡ true → none_below n ss ≡ true
lower m n [] h lt = refl
lower m n (s ∷ ss) h lt =
    let p = and_parts (not (is_lt (id_cmp s.first m))) (none_below m ss) h in
    and_from (not (is_lt (id_cmp s.first n))) (none_below n ss) (not_below s.first m n p.0 lt) (lower m n ss p.1 lt)

not_below_itself : (m : Identifier) → not (is_lt (id_cmp m m)) ≡ true
not_below_itself m = ap (λ o. not (is_lt o)) (tied_itself id_cmp-total m)

low_with : (m : Identifier) (l r : List Stretch) (new : Stretch) → none_below m (l ++ r) ≡ true → not (is_lt (id_cmp new.first m)) ≡ true → none_below m (l ++ new ∷ r) ≡ true
low_with m [] r new h is = and_from (not (is_lt (id_cmp new.first m))) (none_below m r) is h
low_with m (s ∷ l) r new h is =
    let p = and_parts (not (is_lt (id_cmp s.first m))) (none_below m (l ++ r)) h in
    and_from (not (is_lt (id_cmp s.first m))) (none_below m (l ++ new ∷ r)) p.0 (low_with m l r new p.1 is)

-- one more stretch
pub low_insert : (m : Identifier) (ss : List Stretch) (j : ℕ) (new : Stretch) → none_below m ss ≡ true → not (is_lt (id_cmp new.first m)) ≡ true → none_below m (insert ss j new) ≡ true
low_insert m ss j new h is = low_with m (take j ss) (drop j ss) new (ap (none_below m) (take-append-drop j ss) ∙ h) is

pub low_lesser : (m n : Identifier) (ss : List Stretch) → none_below m ss ≡ true → (none_below (cond (is_lt (id_cmp n m)) n m) ss ≡ true) × (not (is_lt (id_cmp n (cond (is_lt (id_cmp n m)) n m))) ≡ true)
low_lesser m n ss h = by_test (is_lt (id_cmp n m)) refl where
  by_test : (b : Bool) → is_lt (id_cmp n m) ≡ b → (none_below (cond b n m) ss ≡ true) × (not (is_lt (id_cmp n (cond b n m))) ≡ true)
  by_test true lt = (lower m n ss h lt, not_below_itself n)
  by_test false ge = (h, ap not ge)

-- a stretch that begins with the same identifier
pub low_set : (m : Identifier) (ss : List Stretch) (j : ℕ) (d new : Stretch) → none_below m ss ≡ true → j < length ss → new.first ≡ (get_or ss j d).first → none_below m (set ss j new) ≡ true
low_set m [] j d new h there is = absurd (omega arith)
low_set m (s ∷ ss) zero d new h there is =
    let p = and_parts (not (is_lt (id_cmp s.first m))) (none_below m ss) h in
    and_from (not (is_lt (id_cmp new.first m))) (none_below m ss) (ap (λ f. not (is_lt (id_cmp f m))) is ∙ p.0) p.1
low_set m (s ∷ ss) (suc j) d new h there is =
    let p = and_parts (not (is_lt (id_cmp s.first m))) (none_below m ss) h in
    and_from (not (is_lt (id_cmp s.first m))) (none_below m (set ss j new)) p.0 (low_set m ss j d new p.1 (omega arith) is)

pub low_at : (m : Identifier) (ss : List Stretch) (j : ℕ) (d : Stretch) → none_below m ss ≡ true → j < length ss → not (is_lt (id_cmp (get_or ss j d).first m)) ≡ true
low_at m [] j d h there = absurd (omega arith)
low_at m (s ∷ ss) zero d h there = (and_parts (not (is_lt (id_cmp s.first m))) (none_below m ss) h).0
low_at m (s ∷ ss) (suc j) d h there = low_at m ss j d (and_parts (not (is_lt (id_cmp s.first m))) (none_below m ss) h).1 (omega arith)

-- the first stretches of a row, as far as one
pub low_more : (m n : Identifier) (ss : List Stretch) (i : ℕ) (s : Stretch) → i < length ss → s ≡ get_or ss i s → none_below m (take i ss) ≡ true → n ≡ cond (is_lt (id_cmp s.first m)) s.first m
    → none_below n (take (i + 1) ss) ≡ true
low_more m n ss i s there is h n_is =
    let low = low_lesser m s.first (take i ss) h in
    ap (λ k. none_below k (take (i + 1) ss)) n_is
    ∙ list_all_more (λ (x : Stretch). not (is_lt (id_cmp x.first (cond (is_lt (id_cmp s.first m)) s.first m)))) ss i s there
    ∙ (λ j. low.0 j && (ap (λ (x : Stretch). not (is_lt (id_cmp x.first (cond (is_lt (id_cmp s.first m)) s.first m)))) (sym is) ∙ low.1) j)

-- what comes later isn't below either
pub later_above : (m id : Identifier) (k : ℕ) → not (is_lt (id_cmp id m)) ≡ true → not (is_lt (id_cmp (later id k) m)) ≡ true
later_above m id zero h = ap (λ q. not (is_lt (id_cmp q m))) (later-none id) ∙ h
later_above m id (suc k) h =
    let more = later-more id 1 k (suc k) (omega arith) in
    ap (λ q. not (is_lt (id_cmp q m))) (sym more) ∙ later_above m (later id 1) k (up (is_lt (id_cmp (later id 1) m)) refl) where
      up : (b : Bool) → is_lt (id_cmp (later id 1) m) ≡ b → not (is_lt (id_cmp (later id 1) m)) ≡ true
      up true is =
          let below : is_lt (id_cmp id m) ≡ true = ap is_lt (id_cmp-total.trans id (later id 1) m (later-less id) (less_of (id_cmp (later id 1) m) is)) in
          absurd cc
      up false is = ap not is

pub low_lone : (m : Identifier) (s : Stretch) → s.first ≡ m → none_below m (s ∷ []) ≡ true
low_lone m s is = and_from (not (is_lt (id_cmp s.first m))) true (ap (λ q. not (is_lt (id_cmp q m))) is ∙ not_below_itself m) refl

-- ---- blocks of which all stretches begin with a greater identifier

abbrev pub all_greater : Identifier → List Stretch → Bool
all_greater id ss = nat_eq (passed id ss) (length ss)

passed_within : (id : Identifier) (ss : List Stretch) → passed id ss ≤ length ss
passed_within id [] = omega arith
passed_within id (s ∷ ss) =
    let rest = passed_within id ss in
    elim (is_lt (id_cmp id s.first)) as (λ b. cond b (1 + passed id ss) 0 ≤ length (s ∷ ss)) [ true ↦ omega (arith, rest) | false ↦ omega arith ]

pub passed-all : (id : Identifier) (x y : List Stretch) → passed id x ≡ length x → passed id (x ++ y) ≡ length x + passed id y
passed-all id x y h = pre_all (λ (s : Stretch). is_lt (id_cmp id s.first)) x y h

pub passed-stop : (id : Identifier) (x y : List Stretch) → passed id x < length x → passed id (x ++ y) ≡ passed id x
passed-stop id x y h = pre_stop (λ (s : Stretch). is_lt (id_cmp id s.first)) x y h

-- where it ends, by how many whole blocks are passed
pub passing : (id : Identifier) (xs : List (List Stretch)) → let k = prefix_len (all_greater id) xs in passed id (row xs) ≡ length (row (take k xs)) + passed id (get_or xs k [])
passing id [] = refl
passing id (x ∷ xs) = by_test (passing id xs) (all_greater id x) refl where
  by_test : (let k = prefix_len (all_greater id) xs in passed id (row xs) ≡ length (row (take k xs)) + passed id (get_or xs k [])) → (b : Bool) → all_greater id x ≡ b
      → passed id (x ++ row xs) ≡ length (row (take (cond b (1 + prefix_len (all_greater id) xs) 0) (x ∷ xs))) + passed id (get_or (x ∷ xs) (cond b (1 + prefix_len (all_greater id) xs) 0) [])
  by_test rest true is =
      let k = prefix_len (all_greater id) xs in
      let s : 1 + k ≡ suc k = omega arith in
      rw s (passed-all id x (row xs) (eqb-true (passed id x) (length x) is) ∙ omega (arith, rest, length-append x (row (take k xs))))
  by_test rest false is =
      let within = passed_within id x in
      let few : passed id x < length x = less_of_not (passed id x) (length x) within (eqb-false (passed id x) (length x) is) in
      passed-stop id x (row xs) few ∙ omega arith where
        less_of_not : (a b : ℕ) → a ≤ b → (a ≡ b → ⊥) → a < b
        less_of_not a b within other = by_order (nat_lt a b) refl where
          by_order : (t : Bool) → nat_lt a b ≡ t → a < b
          by_order true is = ltb-true a b is
          by_order false is = let ge = ltb-false a b is in absurd (other (omega (arith, ge, within)))

-- it ends in the block
pub passes_here : (id : Identifier) (xs : List (List Stretch)) (b j : ℕ) → b < length xs → j ≤ length (get_or xs b []) → passed id (drop j (get_or xs b [])) < length (drop j (get_or xs b []))
    → at xs b (j + passed id (drop j (get_or xs b []))) ≡ at xs b j + passed id (drop (at xs b j) (row xs))
passes_here id xs b j there within few =
    let here = drop j (get_or xs b []) in
    let count : passed id (drop (at xs b j) (row xs)) ≡ passed id here = ap (passed id) (drop_row xs b j there within) ∙ passed-stop id here (row (drop (suc b) xs)) few in
    omega (arith, count)

-- it ends behind it, as many blocks on as are passed whole
pub passes_on : (id : Identifier) (xs : List (List Stretch)) (b j : ℕ) → b < length xs → j ≤ length (get_or xs b []) → passed id (drop j (get_or xs b [])) ≡ length (drop j (get_or xs b []))
    → let k = prefix_len (all_greater id) (drop (suc b) xs) in
    length (row (take (suc b + k) xs)) + passed id (get_or xs (suc b + k) []) ≡ at xs b j + passed id (drop (at xs b j) (row xs))
passes_on id xs b j there within all =
    let here = drop j (get_or xs b []) in
    let rest = drop (suc b) xs in
    let k = prefix_len (all_greater id) rest in
    let count : passed id (drop (at xs b j) (row xs)) ≡ length here + passed id (row rest) = ap (passed id) (drop_row xs b j there within) ∙ passed-all id here (row rest) all in
    let long = length-drop j (get_or xs b []) in
    let more = passing id rest in
    let far : length (row (take (suc b + k) xs)) ≡ length (row (take (suc b) xs)) + length (row (take k rest)) = row-add xs (suc b) k in
    let at_k : get_or rest k [] ≡ get_or xs (suc b + k) [] = get_or-drop (suc b) xs k [] in
    omega (arith, count, long, more, far, ap (passed id) at_k, row-suc xs b, within)
