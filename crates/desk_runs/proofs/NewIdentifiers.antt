-- The identifiers of what is typed: counters in a row, from the next one on, each at the site of the change.
use Rattle.std.proofs.Common.{◌≡◌, ◌<◌, ◌+◌, ℕ, zero, suc, List, [], ◌∷◌, ◌++◌, length, take, drop, None, Some, inl, inr, sym, ap, arith}
use Rattle.std.specs.Prelude.{All, Contains, slice_get, map as each}
use Rattle.std.proofs.lemmas.List.Elements.{All-head}
use Rattle.bg_types.specs.Identifier.{Identifier}
use Rattle.bg_types.specs.OperationSet.{OperationSet, Holds, named_counters, parent_counters}
use Rattle.bg_types.specs.declared.op.Place.{Place}
use Rattle.bg_types.specs.declared.op.Place.TheVariants.{After}
use Rattle.bg_types.specs.declared.op.OpView.{OpView}
use Rattle.bg_types.specs.declared.op.OpView.TheVariants.{Insert, Erase}
use Rattle.bg_types.proofs.Interface.{next-above}
use Rattle.rga_tree.specs.TextOf.{visible_ids}
use Rattle.desk_replica.specs.Typing.{parent_at}
use Rattle.desk_runs.specs.declared.change.Change.{Change}
use Rattle.desk_replica.specs.Replacement.{id_after, insertions}
use Rattle.desk_runs.specs.Changing.{place_in, first_id, operations_of}
use Rattle.desk_runs.proofs.Sets.{contains_none, contains_cases}

index_of : {X : Type 0} (xs : List X) (x : X) → Contains xs x → (k : ℕ) × (slice_get xs k ≡ Some x)
index_of [] x h = absurd (contains_none x h)
index_of (y ∷ xs) x h = elim (contains_cases y xs x h) [ inl is ↦ (0, ap Some (sym is)) | inr later ↦ let rest = index_of xs x later in (suc rest.0, rest.1) ]

nothing_there : {X : Type 0} (k : ℕ) (x : X) → slice_get [] k ≡ Some x → ⊥
nothing_there zero x h = absurd (let e : None ≡ Some x = h in cc)
nothing_there (suc k) x h = absurd (let e : None ≡ Some x = h in cc)

-- number i, from 0, after the first
record IsNumber (first : Identifier) (i : ℕ) (id : Identifier) : Type 0 where
  counter : id.counter ≡ first.counter + i
  site : id.site ≡ first.site

number_of : (first : Identifier) (parent : Place) (typed : List ℕ) (i : ℕ) (id : Identifier) (p : Place) (ch : ℕ) → slice_get (insertions first parent typed) i ≡ Some (Insert id p ch) → IsNumber first i id
number_of first parent [] i id p ch h = absurd (nothing_there i (Insert id p ch) h)
number_of first parent (x ∷ typed) zero id p ch h =
    let same : first ≡ id = cc in
    let counters = ap (λ (q : Identifier). q.counter) same in
    record { counter = omega (arith, counters); site = sym (ap (λ (q : Identifier). q.site) same) }
number_of first parent (x ∷ typed) (suc i) id p ch h =
    let rest = number_of (id_after first) (After first) typed i id p ch h in
    record { counter = omega (arith, rest.counter); site = rest.site }

-- what is no deletion stands after the deletions
after_deletions : (targets : List Identifier) (rest : List OpView) (i : ℕ) (id : Identifier) (p : Place) (ch : ℕ) → slice_get (each Erase targets ++ rest) i ≡ Some (Insert id p ch)
    → (j : ℕ) × (slice_get rest j ≡ Some (Insert id p ch)) × (i ≡ length targets + j)
after_deletions [] rest i id p ch h = (i, h, omega arith)
after_deletions (x ∷ targets) rest zero id p ch h = absurd (let e : Some (Erase x) ≡ Some (Insert id p ch) = h in cc)
after_deletions (x ∷ targets) rest (suc i) id p ch h = let later = after_deletions targets rest i id p ch h in (later.0, later.1, omega (arith, later.2))

module _ (s : OperationSet) (change : Change) (typed : List ℕ) where
  abbrev made : List OpView
  made = operations_of s change typed

  numbered : (i : ℕ) (id : Identifier) (p : Place) (ch : ℕ) → slice_get made i ≡ Some (Insert id p ch) → (j : ℕ) × IsNumber (first_id s change) j id × (i ≡ length (take change.erased (drop (place_in s change) (visible_ids s))) + j)
  numbered i id p ch h =
      let later = after_deletions (take change.erased (drop (place_in s change) (visible_ids s))) (insertions (first_id s change) (parent_at (visible_ids s) (place_in s change)) typed) i id p ch h in
      (later.0, number_of (first_id s change) (parent_at (visible_ids s) (place_in s change)) typed later.0 id p ch later.1, later.2)

  listed : (id : Identifier) (p : Place) (ch : ℕ) → Contains made (Insert id p ch) → (j : ℕ) × IsNumber (first_id s change) j id
  listed id p ch h = let at = index_of made (Insert id p ch) h in let n = numbered at.0 id p ch at.1 in (n.0, n.1)

  pub above : (id : Identifier) (p : Place) (ch : ℕ) → Contains made (Insert id p ch) → (op : OpView) → Holds s op → All (λ c. c < id.counter) (named_counters op)
  above id p ch h op held k lt =
      let n = listed id p ch h in
      let below = next-above s op held k lt in
      omega (arith, n.1.counter, below)

  pub own_site : (id : Identifier) (p : Place) (ch : ℕ) → Contains made (Insert id p ch) → id.site ≡ change.site
  own_site id p ch h = (listed id p ch h).1.site

  pub apart : (all : OperationSet) → ((id : Identifier) (p : Place) (ch : ℕ) → Holds all (Insert id p ch) → id.site ≡ change.site → Holds s (Insert id p ch))
      → (id : Identifier) (p q : Place) (a b : ℕ) → Contains made (Insert id p a) → Holds all (Insert id q b) → ⊥
  apart all held id p q a b h old =
      let below = All-head (λ c. c < id.counter) id.counter (parent_counters q) (above id p a h (Insert id q b) (held id q b old (own_site id p a h))) in
      omega arith

  pub once : (i j : ℕ) (id : Identifier) (p q : Place) (a b : ℕ) → slice_get made i ≡ Some (Insert id p a) → slice_get made j ≡ Some (Insert id q b) → i ≡ j
  once i j id p q a b h k =
      let m = numbered i id p a h in
      let n = numbered j id q b k in
      omega (arith, m.1.counter, n.1.counter, m.2, n.2)
