-- Where identifiers lead as stretches change.
use Rattle.std.proofs.Common.{◌≡◌, ℕ, zero, suc, ◌<◌, ◌≤◌, ◌+◌, ◌-◌, ◌^◌, Bool, true, false, cond, not, ◌&&◌, List, [], ◌∷◌, ◌++◌, length, take, drop, get_or, Option, Some, None, refl, sym, ap, subst, ◌∙◌, append_assoc, arith}
use Rattle.std.specs.Prelude.{All, insert, set, nat_eq, nat_lt}
use Rattle.std.proofs.lemmas.Bool.{ltb-true, ltb-false}
use Rattle.std.proofs.lemmas.List.Elements.{All-append, All-cons, All-more, All-take, All-drop}
use Rattle.std.proofs.lemmas.List.{get_or-drop, length-drop, get_or_default}
use Rattle.bg_types.specs.Identifier.{Identifier}
use Rattle.rga_runs.specs.declared.stretch.Stretch.{Stretch}
use Rattle.rga_runs.specs.declared.key.Key.{Key}
use Rattle.rga_runs.specs.Typed.{later}
use Rattle.rga_runs.specs.Stretches.{IsOutside, AreApart}
use Rattle.rga_runs.specs.Keyed.{rank, last_key, of_site, look_in, reaches}
use Rattle.rga_runs.specs.Indexed.{IsHome, AreHome, AreKnown}
use Rattle.rga_runs.specs.Blocks.{row_of}
use Rattle.rga_runs.proofs.Keyed.{last_of, look_next, site_eq, eq_true, ltb_ge}
use Rattle.rga_runs.proofs.Typed.{later-more, later-none}
use Rattle.rga_runs.proofs.Apart.{outside_others}
use Rattle.rga_runs.proofs.Chunks.{row_around, item_parts, drop_item}

-- what is found from identifiers
abbrev pub Look : Type 0
Look = Identifier → Option (Identifier × ℕ)

-- what is found, and where it begins
abbrev pub told : Identifier → ℕ → Option (Identifier × ℕ)
told f n = Some (f, n)

abbrev first_of : Identifier → Option (Identifier × ℕ) → Identifier
first_of q None = q
first_of q (Some e) = e.0

pub pair_first : (a b : Identifier) (m n : ℕ) → told a m ≡ told b n → a ≡ b
pair_first a b m n is = ap (first_of a) is

abbrev second_of : Option (Identifier × ℕ) → ℕ
second_of None = 0
second_of (Some e) = e.1

pub pair_second : (a b : Identifier) (m n : ℕ) → told a m ≡ told b n → m ≡ n
pair_second a b m n is = ap second_of is

-- with a key more, of a stretch that begins with f in block n
abbrev pub Gains : Look → Look → Identifier → ℕ → Type 0
Gains new old f n = (q : Identifier) → q.counter < 4294967296 → new q ≡ cond (reaches f q (old q)) (told f n) (old q)

-- ---- a stretch and another one's key

pub home_kept : (new old : Look) (f : Identifier) (m n : ℕ) (s : Stretch) → Gains new old f m → IsOutside f s → IsHome old n s → IsHome new n s
home_kept new old f m n s gains outside home k less =
    let q = later s.first k in
    let fits = s.counters in
    let was = home k less in
    gains q (omega (arith, fits, less)) ∙ ap (λ o. cond (reaches f q o) (told f m) o) was ∙ by_reach (nat_eq f.site q.site) refl (nat_lt q.counter f.counter) refl (nat_lt f.counter s.first.counter) refl where
      by_reach : (a : Bool) → nat_eq f.site s.first.site ≡ a → (b : Bool) → nat_lt (s.first.counter + k) f.counter ≡ b → (c : Bool) → nat_lt f.counter s.first.counter ≡ c
          → cond (nat_eq f.site s.first.site && (not (nat_lt (s.first.counter + k) f.counter) && not (nat_lt f.counter s.first.counter))) (told f m) (told s.first n) ≡ told s.first n
      by_reach false a b bi c ci = ap (λ t. cond (t && (not (nat_lt (s.first.counter + k) f.counter) && not (nat_lt f.counter s.first.counter))) (told f m) (told s.first n)) a
      by_reach true a true bi c ci = λ i. cond (a i && (not (bi i) && not (nat_lt f.counter s.first.counter))) (told f m) (told s.first n)
      by_reach true a false bi true ci = λ i. cond (a i && (not (bi i) && not (ci i))) (told f m) (told s.first n)
      by_reach true a false bi false ci =
          let site = site_eq f.site s.first.site a in
          let low = ltb-false (s.first.counter + k) f.counter bi in
          let high = ltb-false f.counter s.first.counter ci in
          let i : ℕ = f.counter - s.first.counter in
          let counter : f.counter ≡ s.first.counter + i = omega (arith, high) in
          absurd (outside i (omega (arith, low, high, less, counter)) (λ j. record { counter = counter j; site = site j }))

-- ---- a stretch and its own key

-- what was found from each of its identifiers isn't nearer than its first one
pub home_own : (new old : Look) (f : Identifier) (n : ℕ) (s : Stretch) → Gains new old f n → s.first ≡ f
    → ((k : ℕ) → k < s.count → (g : Identifier) (m : ℕ) → old (later s.first k) ≡ told g m → g.counter ≤ f.counter) → IsHome new n s
home_own new old f n s gains first near k less =
    let q = later s.first k in
    let fits = s.counters in
    gains q (omega (arith, fits, less)) ∙ by_old (old q) refl (near k less) ∙ (λ i. told (sym first i) n) where
      site : nat_eq f.site s.first.site ≡ true
      site = eq_true f.site s.first.site (ap (λ (z : Identifier). z.site) (sym first))

      low : nat_lt (s.first.counter + k) f.counter ≡ false
      low = let same = ap (λ (z : Identifier). z.counter) first in ltb_ge (s.first.counter + k) f.counter (omega (arith, same))

      by_old : (o : Option (Identifier × ℕ)) → old (later s.first k) ≡ o → ((g : Identifier) (m : ℕ) → o ≡ told g m → g.counter ≤ f.counter)
          → cond (reaches f (later s.first k) (old (later s.first k))) (told f n) (old (later s.first k)) ≡ told f n
      by_old None is near = ap (λ o. cond (reaches f (later s.first k) o) (told f n) o) is ∙ (λ i. cond (site i && not (low i)) (told f n) None)
      by_old (Some e) is near =
          let close : nat_lt f.counter e.0.counter ≡ false = ltb_ge f.counter e.0.counter (near e.0 e.1 refl) in
          ap (λ o. cond (reaches f (later s.first k) o) (told f n) o) is ∙ (λ i. cond (site i && (not (low i) && not (close i))) (told f n) (Some e))

-- what is found isn't above
pub look_below : (ks : List Key) (q g : Identifier) (m : ℕ) → look_in ks q ≡ told g m → g.counter ≤ q.counter
look_below ks q g m is = by_last (last_key (rank q) ks) refl is where
  by_last : (o : Option Key) → last_key (rank q) ks ≡ o → of_site q.site o ≡ told g m → g.counter ≤ q.counter
  by_last None was is = absurd cc
  by_last (Some k) was is =
      let found = last_of (λ (z : Key). rank z.first ≤ rank z.first) (rank q) ks k (λ i d less. omega arith) was in
      by_site (nat_eq k.first.site q.site) refl is found.1 where
        by_site : (b : Bool) → nat_eq k.first.site q.site ≡ b → cond b (told k.first k.number) None ≡ told g m → rank k.first ≤ rank q → g.counter ≤ q.counter
        by_site true same is low =
            let site = site_eq k.first.site q.site same in
            let it : k.first ≡ g = pair_first k.first g k.number m is in
            let counter = ap (λ (z : Identifier). z.counter) it in
            omega (arith, site, low, counter)
        by_site false same is low = absurd cc

-- ---- a stretch that is changed

-- its first identifier is the same, and it has no more
pub home_shorter : (look : Look) (n : ℕ) (s new : Stretch) → new.first ≡ s.first → new.count ≤ s.count → IsHome look n s → IsHome look n new
home_shorter look n s new first few home k less = ap (λ f. look (later f k)) first ∙ home k (omega (arith, less, few)) ∙ (λ i. told (sym first i) n)

-- it has m more, which have no keys
pub home_grown : (ks : List Key) (n : ℕ) (s new : Stretch) (m : ℕ) → new.first ≡ s.first → new.count ≡ s.count + m → s.first.counter + s.count + m ≤ 4294967296
    → ((k : ℕ) → k < m → (f : Identifier) (i : ℕ) → look_in ks (later s.first (s.count + k)) ≡ told f i → f ≡ later s.first (s.count + k) → ⊥) → IsHome (look_in ks) n s → IsHome (look_in ks) n new
home_grown ks n s new m first count fits none home k less =
    ap (λ f. look_in ks (later f k)) first ∙ by_place (nat_lt k s.count) refl ∙ (λ i. told (sym first i) n) where
      next_one : (j : ℕ) → j < m → look_in ks (later s.first (s.count + j - 1)) ≡ told s.first n → look_in ks (later s.first (s.count + j)) ≡ told s.first n
      next_one j few before =
          let some = s.some in
          let prior : ℕ = s.count + j - 1 in
          let next : later (later s.first prior) 1 ≡ later s.first (s.count + j) = later-more s.first prior 1 (s.count + j) (omega (arith, some)) in
          ap (look_in ks) (sym next)
          ∙ look_next ks (later s.first prior) s.first n (omega (arith, some, few, fits)) before (λ f i is same. none j few f i (ap (look_in ks) (sym next) ∙ is) (same ∙ next))

      further : (j : ℕ) → j < m → look_in ks (later s.first (s.count + j)) ≡ told s.first n
      further zero few =
          let some = s.some in
          let e : s.count + 0 - 1 ≡ s.count - 1 = omega arith in
          next_one 0 few (ap (λ i. look_in ks (later s.first i)) e ∙ home (s.count - 1) (omega (arith, some)))
      further (suc j) few =
          let e : s.count + suc j - 1 ≡ s.count + j = omega arith in
          next_one (suc j) few (ap (λ i. look_in ks (later s.first i)) e ∙ further j (omega (arith, few)))

      by_place : (b : Bool) → nat_lt k s.count ≡ b → look_in ks (later s.first k) ≡ told s.first n
      by_place true is = home k (ltb-true k s.count is)
      by_place false is =
          let least = ltb-false k s.count is in
          let at : k ≡ s.count + (k - s.count) = omega (arith, least) in
          ap (λ j. look_in ks (later s.first j)) at ∙ further (k - s.count) (omega (arith, least, less, count))

-- ---- rows of blocks

-- a block that is changed among others
pub homes_set : (look : Look) (xs : List (List Stretch)) (ns : List ℕ) (b : ℕ) (y : List Stretch) → b < length xs → AreHome look xs ns → All (IsHome look (get_or ns b 0)) y → AreHome look (set xs b y) ns
homes_set look [] ns b y there homes own c less = absurd (omega arith)
homes_set look (x ∷ xs) ns zero y there homes own zero less = own
homes_set look (x ∷ xs) ns zero y there homes own (suc c) less = homes (suc c) less
homes_set look (x ∷ xs) ns (suc b) y there homes own zero less = homes zero (omega arith)
homes_set look (x ∷ xs) [] (suc b) y there homes own (suc c) less = homes_set look xs [] b y (omega arith) (λ d small. homes (suc d) (omega (arith, small))) own c (omega arith)
homes_set look (x ∷ xs) (n ∷ ns) (suc b) y there homes own (suc c) less = homes_set look xs ns b y (omega arith) (λ d small. homes (suc d) (omega (arith, small))) own c (omega arith)

-- all stretches of a row and those of one block
pub all_row : (P : Stretch → Type 0) (xs : List (List Stretch)) (b : ℕ) → b < length xs → All P (row_of xs) → All P (get_or xs b [])
all_row P [] b there all = absurd (omega arith)
all_row P (x ∷ xs) zero there all = all_left x (row_of xs) all where
  all_left : (x y : List Stretch) → All P (x ++ y) → All P x
  all_left [] y all k d less = absurd (omega arith)
  all_left (s ∷ x) y all zero d less = all 0 d (omega arith)
  all_left (s ∷ x) y all (suc k) d less = all_left x y (λ j e small. all (suc j) e (omega (arith, small))) k d (omega arith)
all_row P (x ∷ xs) (suc b) there all = all_row P xs b (omega arith) (all_right x (row_of xs) all) where
  all_right : (x y : List Stretch) → All P (x ++ y) → All P y
  all_right [] y all = all
  all_right (s ∷ x) y all = all_right x y (λ j e small. all (suc j) e (omega (arith, small)))

-- a key more, whose identifier is outside
pub homes_kept : (new old : Look) (f : Identifier) (m : ℕ) (xs : List (List Stretch)) (ns : List ℕ) → Gains new old f m → All (IsOutside f) (row_of xs) → AreHome old xs ns → AreHome new xs ns
homes_kept new old f m xs ns gains outside homes b less = λ j d small. home_kept new old f m (get_or ns b 0) (get_or (get_or xs b []) j d) gains (all_row (IsOutside f) xs b less outside j d small) (homes b less j d small)

-- one more stretch in a block, with its key
pub homes_insert : (new old : Look) (f : Identifier) (xs : List (List Stretch)) (ns : List ℕ) (b j : ℕ) (s : Stretch) → b < length xs → Gains new old f (get_or ns b 0) → All (IsOutside f) (row_of xs) → AreHome old xs ns
    → IsHome new (get_or ns b 0) s → AreHome new (set xs b (insert (get_or xs b []) j s)) ns
homes_insert new old f xs ns b j s there gains outside homes own =
    let kept = homes_kept new old f (get_or ns b 0) xs ns gains outside homes in
    let x = get_or xs b [] in
    let P : Stretch → Type 0 = IsHome new (get_or ns b 0) in
    homes_set new xs ns b (insert x j s) there kept (All-append P (take j x) (s ∷ drop j x) (All-take P j x (kept b there)) (All-cons P s (drop j x) own (All-drop P j x (kept b there))))

-- ---- what is known

pub known_more : (new old : Look) (f : Identifier) (n : ℕ) (ss rs : List Stretch) → Gains new old f n → AreKnown old ss
    → ((g : Identifier) → All (IsOutside g) rs → All (IsOutside g) ss) → (All (IsOutside f) rs → ⊥) → AreKnown new rs
known_more new old f n ss rs gains known fewer stands q g m fits is out = by_reach (reaches f q (old q)) refl where
  by_reach : (b : Bool) → reaches f q (old q) ≡ b → ⊥
  by_reach true near =
      let it : told f n ≡ told g m = sym (gains q fits ∙ ap (λ b. cond b (told f n) (old q)) near) ∙ is in
      let same : f ≡ g = pair_first f g n m it in
      stands (subst (λ z. All (IsOutside z) rs) (sym same) out)
  by_reach false far = known q g m fits (sym (gains q fits ∙ ap (λ b. cond b (told f n) (old q)) far) ∙ is) (fewer g out)

-- ---- another number for the stretches of a block

pub first_fits : (s : Stretch) → s.first.counter < 2 ^ 32
first_fits s = let some = s.some in let fits = s.counters in omega (arith, some, fits)

-- a stretch that is left has its key
pub first_home : (look : Look) (n : ℕ) (ss : List Stretch) (i : ℕ) (s : Stretch) → i < length ss → s ≡ get_or ss i s → All (IsHome look n) (drop i ss) → look s.first ≡ told s.first n
first_home look n ss i s there is left =
    let long = length-drop i ss in
    let here : get_or (drop i ss) 0 s ≡ s = get_or-drop i ss 0 s ∙ ap (λ k. get_or ss k s) (omega arith) ∙ sym is in
    let some = s.some in
    ap look (sym (later-none s.first)) ∙ subst (IsHome look n) here (left 0 s (omega (arith, long, there))) 0 some

-- stretch i gets its number
pub renewed : (new old : Look) (ss : List Stretch) (i : ℕ) (s : Stretch) (number : ℕ) → AreApart ss → i < length ss → s ≡ get_or ss i s → Gains new old s.first number
    → All (IsHome old number) (take i ss) → (n : ℕ) → All (IsHome old n) (drop i ss) → All (IsHome new number) (take (i + 1) ss) × All (IsHome new n) (drop (i + 1) ss)
renewed new old ss i s number apart there is gains done n left =
    let parts : ss ≡ take i ss ++ s ∷ drop (suc i) ss = item_parts ss i s there is in
    let some = s.some in
    let others = outside_others (take i ss) (drop (suc i) ss) s 0 (subst AreApart parts apart) some in
    let out_of : (t : Stretch) → IsOutside (later s.first 0) t → IsOutside s.first t = λ t. subst (λ q. IsOutside q t) (later-none s.first) in
    let one_more : i + 1 ≡ suc i = omega arith in
    let mine : All (IsHome old n) (s ∷ drop (suc i) ss) = subst (All (IsHome old n)) (drop_item ss i s there is) left in
    let near : (k : ℕ) → k < s.count → (g : Identifier) (m : ℕ) → old (later s.first k) ≡ told g m → g.counter ≤ s.first.counter =
    λ k less g m found. let same : told s.first n ≡ told g m = sym (mine 0 s (omega arith) k less) ∙ found in let counter = ap (λ (z : Identifier). z.counter) (pair_first s.first g n m same) in omega (arith, counter) in
    let own : IsHome new number s = home_own new old s.first number s gains refl near in
    let front : All (IsHome new number) (take i ss) = λ k d less. home_kept new old s.first number number (get_or (take i ss) k d) gains (out_of (get_or (take i ss) k d) (others.0 k d less)) (done k d less) in
    let back : All (IsHome new n) (drop (suc i) ss) = λ k d less. home_kept new old s.first number n (get_or (drop (suc i) ss) k d) gains (out_of (get_or (drop (suc i) ss) k d) (others.1 k d less)) (mine (suc k) d (omega (arith, less))) in
    (All-more (IsHome new number) ss i s there front (subst (IsHome new number) is own), subst (λ m. All (IsHome new n) (drop m ss)) (sym one_more) back)

-- all stretches of a row, by their blocks
pub all_blocks : (P : Stretch → Type 0) (xs : List (List Stretch)) → ((b : ℕ) → b < length xs → All P (get_or xs b [])) → All P (row_of xs)
all_blocks P [] each = λ k d less. absurd (omega (arith, less))
all_blocks P (x ∷ xs) each = All-append P x (row_of xs) (each 0 (omega arith)) (all_blocks P xs (λ b less. each (suc b) (omega (arith, less))))

-- ---- a block in two halves

pub all_front : (P : Stretch → Type 0) (x y : List Stretch) → All P (x ++ y) → All P x
all_front P [] y all k d less = absurd (omega (arith, less))
all_front P (s ∷ x) y all zero d less = all 0 d (omega arith)
all_front P (s ∷ x) y all (suc k) d less = all_front P x y (λ j e small. all (suc j) e (omega (arith, small))) k d (omega (arith, less))

pub all_back : (P : Stretch → Type 0) (x y : List Stretch) → All P (x ++ y) → All P y
all_back P [] y all = all
all_back P (s ∷ x) y all = all_back P x y (λ j e small. all (suc j) e (omega (arith, small)))

-- what is not of the upper half is outside the identifiers with which its stretches begin
pub outside_half : (xs : List (List Stretch)) (q : ℕ) (low high : List Stretch) → q < length xs → get_or xs q [] ≡ low ++ high → AreApart (row_of xs) → (i : ℕ) (d : Stretch) → i < length high
    → All (IsOutside (get_or high i d).first) (row_of (take q xs)) × All (IsOutside (get_or high i d).first) low × All (IsOutside (get_or high i d).first) (row_of (drop (suc q) xs))
outside_half xs q low high there is apart i d less =
    let t = get_or high i d in
    let a = row_of (take q xs) in
    let b = row_of (drop (suc q) xs) in
    let front = take i high in
    let back = drop (suc i) high in
    let high_is : high ≡ front ++ t ∷ back = item_parts high i t less (get_or_default high i d t less) in
    let around : row_of xs ≡ ((a ++ low) ++ front) ++ t ∷ (back ++ b) =
    row_around xs q there ∙ ap (λ x. a ++ (x ++ b)) is ∙ ap (λ l. a ++ l) (append_assoc low high b)
    ∙ ap (λ h. a ++ (low ++ (h ++ b))) high_is ∙ ap (λ l. a ++ (low ++ l)) (append_assoc front (t ∷ back) b)
    ∙ sym (append_assoc a low (front ++ t ∷ (back ++ b))) ∙ sym (append_assoc (a ++ low) front (t ∷ (back ++ b))) in
    let some = t.some in
    let others = outside_others ((a ++ low) ++ front) (back ++ b) t 0 (subst AreApart around apart) some in
    let q_is = later-none t.first in
    let before = subst (λ f. All (IsOutside f) ((a ++ low) ++ front)) q_is others.0 in
    let behind = subst (λ f. All (IsOutside f) (back ++ b)) q_is others.1 in
    let both = all_front (IsOutside t.first) (a ++ low) front before in
    (all_front (IsOutside t.first) a low both, all_back (IsOutside t.first) a low both, all_back (IsOutside t.first) back b behind)

-- the halves, and all other blocks as they were
pub homes_split : (look : Look) (xs : List (List Stretch)) (ns : List ℕ) (q number : ℕ) (low high : List Stretch) → q < length xs → q < length ns
    → ((c : ℕ) → c < length xs → (c ≡ q → ⊥) → All (IsHome look (get_or ns c 0)) (get_or xs c [])) → All (IsHome look (get_or ns q 0)) low → All (IsHome look number) high
    → AreHome look (insert (set xs q low) (q + 1) high) (insert ns (q + 1) number)
homes_split look xs ns q number low high there numbered others lower upper = let e : q + 1 ≡ suc q = omega arith in rw e (by_row xs ns q there numbered others lower upper) where
  by_row : (xs : List (List Stretch)) (ns : List ℕ) (q : ℕ) → q < length xs → q < length ns
      → ((c : ℕ) → c < length xs → (c ≡ q → ⊥) → All (IsHome look (get_or ns c 0)) (get_or xs c [])) → All (IsHome look (get_or ns q 0)) low → All (IsHome look number) high
      → (c : ℕ) → c < length (insert (set xs q low) (suc q) high) → All (IsHome look (get_or (insert ns (suc q) number) c 0)) (get_or (insert (set xs q low) (suc q) high) c [])
  by_row [] ns q there numbered others lower upper c less = absurd (omega (arith, there))
  by_row (x ∷ xs) [] q there numbered others lower upper c less = absurd (omega (arith, numbered))
  by_row (x ∷ xs) (n ∷ ns) zero there numbered others lower upper zero less = lower
  by_row (x ∷ xs) (n ∷ ns) zero there numbered others lower upper (suc zero) less = upper
  by_row (x ∷ xs) (n ∷ ns) zero there numbered others lower upper (suc (suc c)) less = others (suc c) (omega (arith, less)) (λ is. absurd (omega (arith, is)))
  by_row (x ∷ xs) (n ∷ ns) (suc q) there numbered others lower upper zero less = others 0 (omega arith) (λ is. absurd (omega (arith, is)))
  by_row (x ∷ xs) (n ∷ ns) (suc q) there numbered others lower upper (suc c) less =
      by_row xs ns q (omega (arith, there)) (omega (arith, numbered)) (λ d small never. others (suc d) (omega (arith, small)) (λ is. never (omega (arith, is)))) lower upper c (omega (arith, less))

-- a block that isn't the one that is split
pub other_block : (P : Stretch → Type 0) (xs : List (List Stretch)) (q c : ℕ) → c < length xs → (c ≡ q → ⊥) → All P (row_of (take q xs)) → All P (row_of (drop (suc q) xs)) → All P (get_or xs c [])
other_block P [] q c less never before behind = absurd (omega (arith, less))
other_block P (x ∷ xs) zero zero less never before behind = absurd (never refl)
other_block P (x ∷ xs) zero (suc c) less never before behind = all_row P xs c (omega (arith, less)) behind
other_block P (x ∷ xs) (suc q) zero less never before behind = all_front P x (row_of (take q xs)) before
other_block P (x ∷ xs) (suc q) (suc c) less never before behind = other_block P xs q c (omega (arith, less)) (λ is. never (ap suc is)) (all_back P x (row_of (take q xs)) before) behind

-- what is kept of stretches outside the identifiers with which those of the upper half begin
pub homes_halved : (new old : Look) (xs : List (List Stretch)) (ns : List ℕ) (q number : ℕ) (low high : List Stretch) → q < length xs → q < length ns → get_or xs q [] ≡ low ++ high → AreApart (row_of xs)
    → AreHome old xs ns → ((s : Stretch) (n : ℕ) → All (λ t. IsOutside t.first s) high → IsHome old n s → IsHome new n s) → All (IsHome new number) high
    → AreHome new (insert (set xs q low) (q + 1) high) (insert ns (q + 1) number)
homes_halved new old xs ns q number low high there numbered halved apart homes kept upper =
    let out = outside_half xs q low high there halved apart in
    let mine : All (IsHome old (get_or ns q 0)) low = all_front (IsHome old (get_or ns q 0)) low high (subst (All (IsHome old (get_or ns q 0))) halved (homes q there)) in
    homes_split new xs ns q number low high there numbered
    (λ c less never j d small. kept (get_or (get_or xs c []) j d) (get_or ns c 0)
    (λ i e few. other_block (IsOutside (get_or high i e).first) xs q c less never (out i e few).0 (out i e few).2 j d small) (homes c less j d small))
    (λ j d small. kept (get_or low j d) (get_or ns q 0) (λ i e few. (out i e few).1 j d small) (mine j d small))
    upper

-- ---- what has no key stands nowhere

pub outside_blocks : (look : Look) (xs : List (List Stretch)) (ns : List ℕ) (q : Identifier) → AreHome look xs ns
    → ((b : ℕ) → b < length xs → (f : Identifier) → look q ≡ told f (get_or ns b 0) → All (IsOutside q) (get_or xs b [])) → All (IsOutside q) (row_of xs)
outside_blocks look xs ns q homes never = all_blocks (IsOutside q) xs (λ b there j d less k small is.
    never b there (get_or (get_or xs b []) j d).first (ap look is ∙ homes b there j d less k small) j d less k small is)

-- nor does what no stretch has that begins where its key leads
pub outside_begun : (look : Look) (xs : List (List Stretch)) (ns : List ℕ) (q f : Identifier) (n : ℕ) → AreHome look xs ns → look q ≡ told f n
    → ((b : ℕ) → b < length xs → n ≡ get_or ns b 0 → (j : ℕ) (d : Stretch) → j < length (get_or xs b []) → (get_or (get_or xs b []) j d).first ≡ f → IsOutside q (get_or (get_or xs b []) j d)) → All (IsOutside q) (row_of xs)
outside_begun look xs ns q f n homes found never = all_blocks (IsOutside q) xs (λ b there j d less k small is.
    let s = get_or (get_or xs b []) j d in
    let m = get_or ns b 0 in
    let both : told f n ≡ told s.first m = sym found ∙ ap look is ∙ homes b there j d less k small in
    never b there (pair_second f s.first n m both) j d less (sym (pair_first f s.first n m both)) k small is)
