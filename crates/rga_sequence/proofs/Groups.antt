-- Where identifiers are at home, by groups.
use Rattle.std.proofs.Common.{◌≡◌, ◌≢◌, ℕ, zero, suc, ◌<◌, ◌≤◌, ◌+◌, ◌*◌, ◌/◌, ◌%◌, Bool, true, false, cond, List, [], ◌∷◌, ◌++◌, length, get_or, replicate, Option, Some, None, refl, sym, ap, ◌∙◌, true≢false, arith}
use Rattle.std.specs.Prelude.{set, IsSome}
use Rattle.std.proofs.Math.Nat.{div-add-mod, mod-lt}
use Rattle.std.proofs.lemmas.List.{get_or-set_same, get_or-set_other}
use Rattle.bg_types.specs.Identifier.{Identifier, same_id}
use Rattle.bg_types.proofs.Interface.{same_id-is, same_id-itself}
use Rattle.rga_sequence.specs.Grouped.{group_of, number_in, home_at}

past_end : (ns : List ℕ) (k : ℕ) → length ns ≤ k → get_or ns k 0 ≡ 0
past_end [] k h = refl
past_end (n ∷ ns) zero h = absurd (omega arith)
past_end (n ∷ ns) (suc k) h = past_end ns k (omega arith)

-- entries without a number at the end change none
with_empty : (ns zs : List ℕ) (k : ℕ) → ((j : ℕ) → get_or zs j 0 ≡ 0) → get_or (ns ++ zs) k 0 ≡ get_or ns k 0
with_empty [] zs k empty = empty k
with_empty (n ∷ ns) zs zero empty = refl
with_empty (n ∷ ns) zs (suc k) empty = with_empty ns zs k empty

home_at-empty : (ns zs : List ℕ) (q : Identifier) (o : Option ℕ) → ((j : ℕ) → get_or zs j 0 ≡ 0) → home_at (ns ++ zs) q o ≡ home_at ns q o
home_at-empty ns zs q None empty = refl
home_at-empty ns zs q (Some place) empty = ap number_in (with_empty ns zs (8 * place + q.counter % 8) empty)

-- what is at home is in a group
pub some_group : (ns : List ℕ) (q : Identifier) (o : Option ℕ) → IsSome (home_at ns q o) → IsSome o
some_group ns q None h = h
some_group ns q (Some place) h = refl

-- a further group has nothing
pub home_at-added : (ns zs : List ℕ) (q g : Identifier) (place : ℕ) (old : Identifier → Option ℕ) → ((j : ℕ) → get_or zs j 0 ≡ 0) → length ns ≡ 8 * place → old g ≡ None
    → home_at (ns ++ zs) q (cond (same_id (group_of q) g) (Some place) (old (group_of q))) ≡ home_at ns q (old (group_of q))
home_at-added ns zs q g place old empty long none = by_test (same_id (group_of q) g) refl where
  by_test : (b : Bool) → same_id (group_of q) g ≡ b → home_at (ns ++ zs) q (cond b (Some place) (old (group_of q))) ≡ home_at ns q (old (group_of q))
  by_test true is =
      let k = 8 * place + q.counter % 8 in
      let nothing : old (group_of q) ≡ None = ap old (same_id-is (group_of q) g is) ∙ none in
      ap number_in (with_empty ns zs k empty ∙ past_end ns k (omega (arith, long))) ∙ sym (ap (home_at ns q) nothing)
  by_test false isnt = home_at-empty ns zs q (old (group_of q)) empty

pub all_empty : (m j : ℕ) → get_or (replicate m zero) j zero ≡ zero
all_empty zero j = refl
all_empty (suc m) zero = refl
all_empty (suc m) (suc j) = all_empty m j

-- the places of groups where one is added behind them
module _ (old new : Identifier → Option ℕ) (g : Identifier) (n : ℕ) (one_more : (k : Identifier) → new k ≡ cond (same_id k g) (Some n) (old k)) where
  its_own : (p : ℕ) → Some n ≡ Some p → n ≡ p
  its_own p h = cc

  pub added_within : ((k : Identifier) (p : ℕ) → old k ≡ Some p → p < n) → (k : Identifier) (p : ℕ) → new k ≡ Some p → p < n + 1
  added_within below k p is = by_test (same_id k g) (sym (one_more k) ∙ is) where
    by_test : (b : Bool) → cond b (Some n) (old k) ≡ Some p → p < n + 1
    by_test true h = let e = its_own p h in omega (arith, e)
    by_test false h = let less = below k p h in omega (arith, less)

  pub added_apart : ((k : Identifier) (p : ℕ) → old k ≡ Some p → p < n) → ((a b : Identifier) (p : ℕ) → old a ≡ Some p → old b ≡ Some p → same_id a b ≡ true)
      → (a b : Identifier) (p : ℕ) → new a ≡ Some p → new b ≡ Some p → same_id a b ≡ true
  added_apart below apart a b p ia ib = by_tests (same_id a g) refl (same_id b g) refl (sym (one_more a) ∙ ia) (sym (one_more b) ∙ ib) where
    by_tests : (s : Bool) → same_id a g ≡ s → (t : Bool) → same_id b g ≡ t → cond s (Some n) (old a) ≡ Some p → cond t (Some n) (old b) ≡ Some p → same_id a b ≡ true
    by_tests true s true t ha hb = ap (same_id a) (same_id-is b g t ∙ sym (same_id-is a g s)) ∙ same_id-itself a
    by_tests true s false t ha hb = let e = its_own p ha in let less = below b p hb in absurd (omega (arith, e, less))
    by_tests false s true t ha hb = let e = its_own p hb in let less = below a p ha in absurd (omega (arith, e, less))
    by_tests false s false t ha hb = apart a b p ha hb

  pub added_there : old g ≡ None → (k : Identifier) (p : ℕ) → old k ≡ Some p → new k ≡ Some p
  added_there none k p is = one_more k ∙ by_test (same_id k g) refl where
    by_test : (b : Bool) → same_id k g ≡ b → cond b (Some n) (old k) ≡ Some p
    by_test true same = let both : None ≡ Some p = sym none ∙ sym (ap old (same_id-is k g same)) ∙ is in absurd cc
    by_test false isnt = is

-- identifiers of one group that have one entry are the same
same_entry : (a b : Identifier) → group_of a ≡ group_of b → a.counter % 8 ≡ b.counter % 8 → a ≡ b
same_entry a b groups rests =
    let counters : a.counter / 8 + 1 ≡ b.counter / 8 + 1 = ap (λ (g : Identifier). g.counter) groups in
    let c : a.counter ≡ b.counter = omega (arith, counters, rests, div-add-mod a.counter 8, div-add-mod b.counter 8) in
    let s : a.site ≡ b.site = ap (λ (g : Identifier). g.site) groups in
    λ i. record { counter = c i; site = s i }

-- one entry is written
pub home_at-written : (ns : List ℕ) (q id : Identifier) (place number : ℕ) (groups : Identifier → Option ℕ) → 8 * place + id.counter % 8 < length ns → groups (group_of id) ≡ Some place
    → ((g h : Identifier) (p : ℕ) → groups g ≡ Some p → groups h ≡ Some p → same_id g h ≡ true)
    → home_at (set ns (8 * place + id.counter % 8) (suc number)) q (groups (group_of q)) ≡ cond (same_id q id) (Some number) (home_at ns q (groups (group_of q)))
home_at-written ns q id place number groups within there apart = by_test (same_id q id) refl where
  by_place : same_id q id ≡ false → (o : Option ℕ) → groups (group_of q) ≡ o → home_at (set ns (8 * place + id.counter % 8) (suc number)) q o ≡ home_at ns q o
  by_place isnt None e = refl
  by_place isnt (Some other) e =
      let entry = 8 * other + q.counter % 8 in
      let less = mod-lt q.counter {m = 8} (omega arith) in
      let few = mod-lt id.counter {m = 8} (omega arith) in
      let differ : entry ≢ 8 * place + id.counter % 8 = λ same.
      let places : other ≡ place = omega (arith, same, less, few) in
      let rests : q.counter % 8 ≡ id.counter % 8 = omega (arith, same, places) in
      let group : group_of q ≡ group_of id = same_id-is (group_of q) (group_of id) (apart (group_of q) (group_of id) place (e ∙ ap Some places) there) in
      let is : same_id q id ≡ true = ap (same_id q) (sym (same_entry q id group rests)) ∙ same_id-itself q in
      true≢false (sym is ∙ isnt) in
      ap number_in (get_or-set_other ns (8 * place + id.counter % 8) entry (suc number) 0 differ)

  by_test : (b : Bool) → same_id q id ≡ b → home_at (set ns (8 * place + id.counter % 8) (suc number)) q (groups (group_of q)) ≡ cond b (Some number) (home_at ns q (groups (group_of q)))
  by_test true is =
      let same : q ≡ id = same_id-is q id is in
      (λ i. home_at (set ns (8 * place + id.counter % 8) (suc number)) (same i) (groups (group_of (same i))))
      ∙ ap (home_at (set ns (8 * place + id.counter % 8) (suc number)) id) there
      ∙ ap number_in (get_or-set_same ns (8 * place + id.counter % 8) (suc number) 0 within)
  by_test false isnt = by_place isnt (groups (group_of q)) refl
