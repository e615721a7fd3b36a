-- What stands, and where it leads, as a stretch is changed, parted or put in.
use Rattle.std.proofs.Common.{◌≡◌, ℕ, zero, suc, ◌<◌, ◌≤◌, ◌+◌, ◌-◌, Bool, true, false, List, [], ◌∷◌, length, take, drop, get_or, refl, sym, ap, subst, ◌∙◌, arith}
use Rattle.std.specs.Prelude.{All, insert, set, nat_lt}
use Rattle.std.proofs.lemmas.Bool.{ltb-true, ltb-false}
use Rattle.std.proofs.lemmas.List.{take-append-drop, set-set, length-set, get_or-set_same}
use Rattle.std.proofs.lemmas.List.Elements.{All-append, All-cons, All-head, All-tail, All-set}
use Rattle.bg_types.specs.Identifier.{Identifier}
use Rattle.rga_runs.specs.declared.stretch.Stretch.{Stretch}
use Rattle.rga_runs.specs.declared.key.Key.{Key}
use Rattle.rga_runs.specs.Typed.{later}
use Rattle.rga_runs.specs.Stretches.{IsOutside, ids_in, AreApart}
use Rattle.rga_tree.specs.Row.{is_distinct}
use Rattle.rga_runs.specs.Keyed.{look_in}
use Rattle.rga_runs.specs.Blocks.{row_of, at_spot}
use Rattle.rga_runs.specs.Indexed.{IsHome, AreHome, AreKnown}
use Rattle.rga_runs.proofs.Typed.{later-more, later-none}
use Rattle.rga_runs.proofs.Apart.{ids-parted, outside_others}
use Rattle.rga_runs.proofs.Chunks.{set_row, get_or_row, at_less}
use Rattle.rga_runs.proofs.Homes.{Look, Gains, told, all_front, all_back, home_own, home_shorter, homes_set, homes_insert, look_below, known_more, pair_first}

-- ---- all stretches of a row, and those of one that has one more, or a changed one

pub all_without : (P : Stretch → Type 0) (ss : List Stretch) (p : ℕ) (s : Stretch) → All P (insert ss p s) → All P ss
all_without P ss p s all =
    let front = all_front P (take p ss) (s ∷ drop p ss) all in
    let back = all_back P (take p ss) (s ∷ drop p ss) all in
    subst (All P) (take-append-drop p ss) (All-append P (take p ss) (drop p ss) front (All-tail P s (drop p ss) back))

pub all_inserted : (P : Stretch → Type 0) (ss : List Stretch) (p : ℕ) (s : Stretch) → All P (insert ss p s) → P s
all_inserted P ss p s all = All-head P s (drop p ss) (all_back P (take p ss) (s ∷ drop p ss) all)

pub all_set_back : (P : Stretch → Type 0) (ss : List Stretch) (p : ℕ) (d new : Stretch) → p < length ss → (P new → P (get_or ss p d)) → All P (set ss p new) → All P ss
all_set_back P [] p d new there back all = absurd (omega (arith, there))
all_set_back P (s ∷ ss) zero d new there back all = All-cons P s ss (back (all 0 new (omega arith))) (λ k e less. all (suc k) e (omega (arith, less)))
all_set_back P (s ∷ ss) (suc p) d new there back all =
    All-cons P s ss (all 0 s (omega arith)) (all_set_back P ss p d new (omega (arith, there)) back (λ k e less. all (suc k) e (omega (arith, less))))

pub all_parted : (P : Stretch → Type 0) (ss : List Stretch) (p : ℕ) (d low rest : Stretch) → p < length ss → (P low → P rest → P (get_or ss p d)) → All P (insert (set ss p low) (p + 1) rest) → All P ss
all_parted P ss p d low rest there both all =
    let l = set ss p low in
    all_set_back P ss p d low there (λ lower. both lower (all_inserted P l (p + 1) rest all)) (all_without P l (p + 1) rest all)

-- ---- what stands in a stretch that is parted

pub outside_parted : (g : Identifier) (s low rest : Stretch) → low.first ≡ s.first → rest.first ≡ later s.first low.count → low.count + rest.count ≡ s.count → IsOutside g low → IsOutside g rest → IsOutside g s
outside_parted g s low rest first next count lower upper k less is = by_place (nat_lt k low.count) refl where
  by_place : (b : Bool) → nat_lt k low.count ≡ b → ⊥
  by_place true small = lower k (ltb-true k low.count small) (is ∙ ap (λ f. later f k) (sym first))
  by_place false large =
      let from = ltb-false k low.count large in
      upper (k - low.count) (omega (arith, from, less, count))
      (is ∙ sym (ap (λ f. later f (k - low.count)) next ∙ later-more s.first low.count (k - low.count) k (omega (arith, from))))

-- ---- a stretch that is changed

pub known_set : (look : Look) (ss : List Stretch) (p : ℕ) (d new : Stretch) → p < length ss → new.first ≡ (get_or ss p d).first → (get_or ss p d).count ≤ new.count → AreKnown look ss → AreKnown look (set ss p new)
known_set look ss p d new there first more known q f n fits is out =
    known q f n fits is (all_set_back (IsOutside f) ss p d new there (λ free k less same. free k (omega (arith, less, more)) (same ∙ ap (λ z. later z k) (sym first))) out)

-- ---- one more stretch, of one character

pub home_lone : (new : Look) (ks : List Key) (f : Identifier) (n : ℕ) (s : Stretch) → Gains new (look_in ks) f n → s.first ≡ f → s.count ≡ 1 → IsHome new n s
home_lone new ks f n s gains first one = home_own new (look_in ks) f n s gains first (λ k less g m found.
    let below = look_below ks (later s.first k) g m found in
    let counter = ap (λ (z : Identifier). z.counter) first in
    omega (arith, below, counter, less, one))

pub known_insert : (new old : Look) (f : Identifier) (n : ℕ) (ss : List Stretch) (p : ℕ) (s : Stretch) → Gains new old f n → s.first ≡ f → AreKnown old ss → AreKnown new (insert ss p s)
known_insert new old f n ss p s gains first known =
    let some = s.some in
    known_more new old f n ss (insert ss p s) gains known (λ g out. all_without (IsOutside g) ss p s out)
    (λ out. all_inserted (IsOutside f) ss p s out 0 some (sym first ∙ sym (later-none s.first)))

-- ---- a stretch in two

pub homes_parted : (new old : Look) (xs : List (List Stretch)) (ns : List ℕ) (q i : ℕ) (d low rest : Stretch) → q < length xs → i < length (get_or xs q []) → AreApart (row_of xs) → Gains new old rest.first (get_or ns q 0)
    → low.first ≡ (get_or (get_or xs q []) i d).first → rest.first ≡ later (get_or (get_or xs q []) i d).first low.count → low.count + rest.count ≡ (get_or (get_or xs q []) i d).count
    → AreHome old xs ns → AreHome new (set xs q (insert (set (get_or xs q []) i low) (i + 1) rest)) ns
homes_parted new old xs ns q i d low rest there within apart gains first next count homes =
    let x = get_or xs q [] in
    let s = get_or x i d in
    let n = get_or ns q 0 in
    let y = set x i low in
    let ys = set xs q y in
    let p = at_spot xs q i in
    let l = set (row_of xs) p low in
    let mine = homes q there in
    let lower : IsHome old n low = home_shorter old n s low first (omega (arith, count)) (mine i d within) in
    let ys_homes : AreHome old ys ns = homes_set old xs ns q y there homes (All-set (IsHome old n) x i low lower mine) in
    let row_ys : row_of ys ≡ l = set_row xs q i low there within in
    let item : get_or (row_of xs) p d ≡ s = get_or_row xs q i d there within in
    let same : ids_in (insert l (p + 1) rest) ≡ ids_in (row_of xs) =
    ids-parted (row_of xs) p d low rest (at_less xs q i there within) (first ∙ ap (λ (z : Stretch). z.first) (sym item)) (next ∙ ap (λ (z : Stretch). later z.first low.count) (sym item)) (count ∙ ap (λ (z : Stretch). z.count) (sym item)) in
    let some = rest.some in
    let others = outside_others (take (p + 1) l) (drop (p + 1) l) rest 0 (ap is_distinct same ∙ apart) some in
    let all : All (IsOutside (later rest.first 0)) l = subst (All (IsOutside (later rest.first 0))) (take-append-drop (p + 1) l) (All-append (IsOutside (later rest.first 0)) (take (p + 1) l) (drop (p + 1) l) others.0 others.1) in
    let outside : All (IsOutside rest.first) (row_of ys) = subst (λ z. All (IsOutside z) (row_of ys)) (later-none rest.first) (subst (All (IsOutside (later rest.first 0))) (sym row_ys) all) in
    let near : (k : ℕ) → k < rest.count → (g : Identifier) (m : ℕ) → old (later rest.first k) ≡ told g m → g.counter ≤ rest.first.counter =
    λ k less g m found.
    let place : later rest.first k ≡ later s.first (low.count + k) = ap (λ z. later z k) next ∙ later-more s.first low.count k (low.count + k) refl in
    let both : told s.first n ≡ told g m = sym (mine i d within (low.count + k) (omega (arith, less, count))) ∙ ap old (sym place) ∙ found in
    let counter = ap (λ (z : Identifier). z.counter) (pair_first s.first g n m both) in
    let start = ap (λ (z : Identifier). z.counter) next in
    omega (arith, counter, start) in
    let own : IsHome new n rest = home_own new old rest.first n rest gains refl near in
    let more = homes_insert new old rest.first ys ns q (i + 1) rest (omega (arith, length-set xs q y, there)) gains outside ys_homes own in
    subst (λ z. AreHome new z ns) (ap (λ z. set ys q (insert z (i + 1) rest)) (get_or-set_same xs q y [] there) ∙ set-set xs q y (insert y (i + 1) rest)) more

pub known_parted : (new old : Look) (n : ℕ) (ss : List Stretch) (p : ℕ) (d low rest : Stretch) → p < length ss → Gains new old rest.first n
    → low.first ≡ (get_or ss p d).first → rest.first ≡ later (get_or ss p d).first low.count → low.count + rest.count ≡ (get_or ss p d).count
    → AreKnown old ss → AreKnown new (insert (set ss p low) (p + 1) rest)
known_parted new old n ss p d low rest there gains first next count known =
    let some = rest.some in
    known_more new old rest.first n ss (insert (set ss p low) (p + 1) rest) gains known
    (λ g out. all_parted (IsOutside g) ss p d low rest there (outside_parted g (get_or ss p d) low rest first next count) out)
    (λ out. all_inserted (IsOutside rest.first) (set ss p low) (p + 1) rest out 0 some (sym (later-none rest.first)))
