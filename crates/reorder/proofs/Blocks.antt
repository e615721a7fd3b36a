-- Rounds of reversals over blocks: where each cluster stands for clusters of its level, they move as it does.
use Rattle.std.proofs.Common.{ℕ, zero, suc, ◌≡◌, ◌+◌, ◌-◌, ◌<◌, inl, inr, refl, ap, sym, ◌∙◌, List, [], ◌∷◌, ◌++◌, length, reverse, Bool, true, false, append_assoc, arith}
use Rattle.std.specs.Prelude.{not, nat_le, if◌then◌else◌}
use Rattle.std.specs.List.{AllByRecursion, flat_map}
use Rattle.std.proofs.lemmas.Bool.{cases_lt}
use Rattle.std.proofs.lemmas.List.{length-reverse, reverse-reverse}
use Rattle.std.proofs.lemmas.List.Concat.{flat_map-append}
use Rattle.std.proofs.lemmas.List.Elements.{All-from_recursion, recursion_from_All}
use Rattle.std.proofs.lemmas.List.Sorted.{IsPermutation-reverse, All-permutation}
use Rattle.bg_types.proofs.Interface.{two_cases}
use Rattle.reorder.specs.VisualList.{Cluster, runs_reversed_behind, runs_reversed, is_at_least, reversed_from}
use Rattle.reorder.proofs.Rounds.{reverse-cons, round-pass, round-stop, is_high, is_low, all-rounds}
use Rattle.reorder.proofs.Arranged.{is_odd_count}

-- the clusters, or after an odd number of reversals their reverse
abbrev pub turned : Bool → List Cluster → List Cluster
turned odd clusters = if odd then reverse clusters else clusters

-- clusters of this level, at least one
pub record IsBlock (level : ℕ) (block : List Cluster) : Type 0 where
  pub some : 0 < length block
  pub same : AllByRecursion (λ (z : Cluster). z.1 ≡ level) block

all-reverse : (P : Cluster → Type 0) (xs : List Cluster) → AllByRecursion P xs → AllByRecursion P (reverse xs)
all-reverse P xs h = recursion_from_All P (reverse xs) (All-permutation P xs (reverse xs) (IsPermutation-reverse xs) (All-from_recursion P xs h))

pub every-weaker : (P Q : Cluster → Type 0) → ((c : Cluster) → P c → Q c) → (cs : List Cluster) → AllByRecursion P cs → AllByRecursion Q cs
every-weaker P Q f [] h = tt
every-weaker P Q f (c ∷ cs) h = (f c h.0, every-weaker P Q f cs h.1)

IsBlock-turned : (level : ℕ) (odd : Bool) (block : List Cluster) → IsBlock level block → IsBlock level (turned odd block)
IsBlock-turned level false block h = h
IsBlock-turned level true block h = record {
  some = let n = length-reverse block in let some = h.some in omega arith;
  same = all-reverse (λ (z : Cluster). z.1 ≡ level) block h.same;
}

same-test : (k : ℕ) (c : Cluster) (b : Bool) (block : List Cluster) → is_at_least k c ≡ b →
    AllByRecursion (λ (z : Cluster). z.1 ≡ c.1) block → AllByRecursion (λ (z : Cluster). is_at_least k z ≡ b) block
same-test k c b [] e h = tt
same-test k c b (z ∷ zs) e h = (ap (λ (l : ℕ). nat_le k l) h.0 ∙ e, same-test k c b zs e h.1)

-- one round

pass-block : (p : Cluster → Bool) (run block rest : List Cluster) → AllByRecursion (λ (z : Cluster). p z ≡ true) block →
    runs_reversed_behind p run (block ++ rest) ≡ runs_reversed_behind p (reverse block ++ run) rest
pass-block p run [] rest h = refl
pass-block p run (z ∷ zs) rest h =
    round-pass p run (zs ++ rest) z h.0 ∙ pass-block p (z ∷ run) zs rest h.1
    ∙ ap (λ l. runs_reversed_behind p l rest)
    (sym (ap (λ l. l ++ run) (reverse-cons z zs) ∙ append_assoc (reverse zs) (z ∷ []) run))

stop-rest : (p : Cluster → Bool) (block rest : List Cluster) → AllByRecursion (λ (z : Cluster). p z ≡ false) block →
    runs_reversed p (block ++ rest) ≡ block ++ runs_reversed p rest
stop-rest p [] rest h = refl
stop-rest p (z ∷ zs) rest h = round-stop p [] (zs ++ rest) z h.0 ∙ ap (λ l. z ∷ l) (stop-rest p zs rest h.1)

stop-block : (p : Cluster → Bool) (run block rest : List Cluster) → 0 < length block → AllByRecursion (λ (z : Cluster). p z ≡ false) block →
    runs_reversed_behind p run (block ++ rest) ≡ run ++ (block ++ runs_reversed p rest)
stop-block p run [] rest some h = absurd (omega arith)
stop-block p run (z ∷ zs) rest some h = round-stop p run (zs ++ rest) z h.0 ∙ ap (λ l. run ++ z ∷ l) (stop-rest p zs rest h.1)

-- what a round from this level on makes of the blocks
abbrev pub blocks_turned : ℕ → (Cluster → List Cluster) → Cluster → List Cluster
blocks_turned k f c = turned (is_at_least k c) (f c)

round-blocks : (k : ℕ) (f : Cluster → List Cluster) (run cs : List Cluster) → AllByRecursion (λ (c : Cluster). IsBlock c.1 (f c)) cs →
    runs_reversed_behind (is_at_least k) (flat_map (blocks_turned k f) run) (flat_map f cs)
    ≡ flat_map (blocks_turned k f) (runs_reversed_behind (is_at_least k) run cs)
round-blocks k f run [] h = refl
round-blocks k f run (c ∷ cs) h =
    two_cases (is_at_least k c)
    (λ e.
    pass-block (is_at_least k) (flat_map (blocks_turned k f) run) (f c) (flat_map f cs) (same-test k c true (f c) e h.0.same)
    ∙ ap (λ (b : Bool). runs_reversed_behind (is_at_least k) (turned b (f c) ++ flat_map (blocks_turned k f) run) (flat_map f cs)) (sym e)
    ∙ round-blocks k f (c ∷ run) cs h.1
    ∙ ap (flat_map (blocks_turned k f)) (sym (round-pass (is_at_least k) run cs c e)))
    (λ e.
    stop-block (is_at_least k) (flat_map (blocks_turned k f) run) (f c) (flat_map f cs) h.0.some (same-test k c false (f c) e h.0.same)
    ∙ ap (λ l. flat_map (blocks_turned k f) run ++ (f c ++ l)) (round-blocks k f [] cs h.1)
    ∙ ap (λ (b : Bool). flat_map (blocks_turned k f) run ++ (turned b (f c) ++ flat_map (blocks_turned k f) (runs_reversed (is_at_least k) cs))) (sym e)
    ∙ sym (flat_map-append (blocks_turned k f) run (c ∷ runs_reversed (is_at_least k) cs))
    ∙ ap (flat_map (blocks_turned k f)) (sym (round-stop (is_at_least k) run cs c e)))

-- all rounds

-- what the rounds of n levels from this one on make of the blocks
abbrev pub rounds_turned : ℕ → ℕ → (Cluster → List Cluster) → Cluster → List Cluster
rounds_turned zero k f = f
rounds_turned (suc n) k f = blocks_turned k (rounds_turned n (suc k) f)

IsBlock-rounds : (n k : ℕ) (f : Cluster → List Cluster) (c : Cluster) → IsBlock c.1 (f c) → IsBlock c.1 (rounds_turned n k f c)
IsBlock-rounds zero k f c h = h
IsBlock-rounds (suc n) k f c h = IsBlock-turned c.1 (is_at_least k c) (rounds_turned n (suc k) f c) (IsBlock-rounds n (suc k) f c h)

pub rounds-blocks : (n k : ℕ) (f : Cluster → List Cluster) (cs : List Cluster) → AllByRecursion (λ (c : Cluster). IsBlock c.1 (f c)) cs →
    reversed_from n k (flat_map f cs) ≡ flat_map (rounds_turned n k f) (reversed_from n k cs)
rounds-blocks zero k f cs h = refl
rounds-blocks (suc n) k f cs h =
    ap (runs_reversed (is_at_least k)) (rounds-blocks n (suc k) f cs h)
    ∙ round-blocks k (rounds_turned n (suc k) f) [] (reversed_from n (suc k) cs)
    (all-rounds (λ (c : Cluster). IsBlock c.1 (rounds_turned n (suc k) f c)) n (suc k) cs
    (every-weaker (λ (c : Cluster). IsBlock c.1 (f c)) (λ (c : Cluster). IsBlock c.1 (rounds_turned n (suc k) f c)) (IsBlock-rounds n (suc k) f) cs h))

turned-once_more : (odd : Bool) (block : List Cluster) → reverse (turned odd block) ≡ turned (not odd) block
turned-once_more true block = reverse-reverse block
turned-once_more false block = refl

-- a block is turned once by each level from k up to its own
pub rounds-turned : (n k : ℕ) (f : Cluster → List Cluster) (c : Cluster) → c.1 < k + n →
    rounds_turned n k f c ≡ turned (is_odd_count (suc c.1 - k)) (f c)
rounds-turned zero k f c lt =
    let none : suc c.1 - k ≡ 0 = omega arith in
    ap (λ (m : ℕ). turned (is_odd_count m) (f c)) (sym none)
rounds-turned (suc n) k f c lt = elim (cases_lt c.1 k) [
  | inl low ↦
      let none : suc c.1 - suc k ≡ suc c.1 - k = omega arith in
      ap (λ (b : Bool). turned b (rounds_turned n (suc k) f c)) (is_low k c low)
      ∙ rounds-turned n (suc k) f c (omega arith)
      ∙ ap (λ (m : ℕ). turned (is_odd_count m) (f c)) none
  | inr high ↦
      let one : suc (suc c.1 - suc k) ≡ suc c.1 - k = omega arith in
      ap (λ (b : Bool). turned b (rounds_turned n (suc k) f c)) (is_high k c high)
      ∙ ap reverse (rounds-turned n (suc k) f c (omega arith))
      ∙ turned-once_more (is_odd_count (suc c.1 - suc k)) (f c)
      ∙ ap (λ (m : ℕ). turned (is_odd_count m) (f c)) one
]
