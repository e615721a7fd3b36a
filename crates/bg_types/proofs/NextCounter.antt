-- The next counter is the least above 0 and above each counter that an operation of the set names.
use Rattle.std.proofs.Common.{◌≡◌, ℕ, ◌+◌, ◌<◌, ◌≤◌, Bool, true, false, cond, List, [], ◌∷◌, ◌++◌, Some, refl, sym, ap, subst, ◌∙◌, arith}
use Rattle.std.specs.Prelude.{◌||◌, All, max, map as each}
use Rattle.std.specs.List.{AllByRecursion, flat_map, list_any}
use Rattle.std.specs.FinMap as map
use Rattle.std.specs.FinSet as set
use Rattle.std.specs.FinMap.Entries.{find}
use Rattle.std.proofs.lemmas.List.Elements.{All-nil, All-cons, recursion_from_All}
use Rattle.std.proofs.lemmas.Grind.{flat_map-append}
use Rattle.bg_types.specs.Identifier.{Identifier, id_cmp, same_id}
use Rattle.bg_types.specs.OperationSet.{Node, OperationSet, Holds, named_counters, greatest, next}
use Rattle.bg_types.specs.declared.op.OpView.{OpView}
use Rattle.bg_types.specs.declared.op.OpView.TheVariants.{Insert, Erase}
use Rattle.bg_types.proofs.IdentifierOrder.{same_id-is, same_id-itself}
use Rattle.bg_types.proofs.OperationSets.{some_is}
use Rattle.bg_types.proofs.Entries.{all_weaker, entries-found}

abbrev Entry : Type 0
Entry = Identifier × Node

abbrev insertion : Entry → OpView
insertion e = Insert e.0 e.1.parent e.1.ch

abbrev AreUpTo : ℕ → List ℕ → Type 0
AreUpTo m xs = AllByRecursion (λ c. c ≤ m) xs

abbrev counters : List OpView → List ℕ
counters ops = flat_map named_counters ops

upto_more : (m n : ℕ) (xs : List ℕ) → m ≤ n → AreUpTo m xs → AreUpTo n xs
upto_more m n xs le = all_weaker (λ c. c ≤ m) (λ c. c ≤ n) (λ c h. omega arith) xs

upto_greatest : (xs : List ℕ) → AreUpTo (greatest xs) xs
upto_greatest [] = tt
upto_greatest (x ∷ xs) = (omega arith, upto_more (greatest xs) (max x (greatest xs)) xs (omega arith) (upto_greatest xs))

greatest-append : (xs ys : List ℕ) → greatest (xs ++ ys) ≡ max (greatest xs) (greatest ys)
greatest-append [] ys = omega arith
greatest-append (x ∷ xs) ys = let rest = greatest-append xs ys in omega arith

-- ---- each named counter is at most the greatest

named_first : (op : OpView) (ops : List OpView) → AreUpTo (greatest (counters (op ∷ ops))) (named_counters op)
named_first op ops =
    let parts = greatest-append (named_counters op) (counters ops) in
    upto_more (greatest (named_counters op)) (greatest (counters (op ∷ ops))) (named_counters op) (omega arith) (upto_greatest (named_counters op))

named_later : (op : OpView) (ops : List OpView) (xs : List ℕ) → AreUpTo (greatest (counters ops)) xs → AreUpTo (greatest (counters (op ∷ ops))) xs
named_later op ops xs h = let parts = greatest-append (named_counters op) (counters ops) in upto_more (greatest (counters ops)) (greatest (counters (op ∷ ops))) xs (omega arith) h

found_upto : (es : List Entry) (q : Identifier) (n : Node) → find id_cmp q es ≡ Some n → AreUpTo (greatest (counters (each insertion es))) (named_counters (insertion (q, n)))
found_upto [] q n h = absurd cc
found_upto (x ∷ es) q n h =
    elim (same_id q x.0) as (λ b. same_id q x.0 ≡ b → cond b (Some x.1) (find id_cmp q es) ≡ Some n → AreUpTo (greatest (counters (each insertion (x ∷ es)))) (named_counters (insertion (q, n)))) [
      | true ↦ λ here is.
          let at : x.0 ≡ q = sym (same_id-is q x.0 here) in
          let same : x.1 ≡ n = some_is x.1 n is in
          subst (λ (e : Entry). AreUpTo (greatest (counters (each insertion (x ∷ es)))) (named_counters (insertion e))) (λ i. (at i, same i)) (named_first (insertion x) (each insertion es))
      | false ↦ λ _ is. named_later (insertion x) (each insertion es) (named_counters (insertion (q, n))) (found_upto es q n is)
    ] refl h

marked_upto : (ts : List Identifier) (q : Identifier) → list_any (same_id q) ts ≡ true → AreUpTo (greatest (counters (each Erase ts))) (named_counters (Erase q))
marked_upto [] q h = absurd cc
marked_upto (t ∷ ts) q h =
    elim (same_id q t) as (λ b. same_id q t ≡ b → (b || list_any (same_id q) ts) ≡ true → AreUpTo (greatest (counters (each Erase (t ∷ ts)))) (named_counters (Erase q))) [
      | true ↦ λ here _. subst (λ (u : Identifier). AreUpTo (greatest (counters (each Erase (t ∷ ts)))) (named_counters (Erase u))) (sym (same_id-is q t here)) (named_first (Erase t) (each Erase ts))
      | false ↦ λ _ is. named_later (Erase t) (each Erase ts) (named_counters (Erase q)) (marked_upto ts q is)
    ] refl h

-- the counters of the set are those of its insertions and those of its deletions
parts_of : (s : OperationSet) → next s ≡ max (greatest (counters (each insertion (map.entries s.ins)))) (greatest (counters (each Erase (set.items s.del)))) + 1
parts_of s =
    let joined = flat_map-append named_counters (each insertion (map.entries s.ins)) (each Erase (set.items s.del)) in
    let most = greatest-append (counters (each insertion (map.entries s.ins))) (counters (each Erase (set.items s.del))) in
    ap (λ xs. greatest xs + 1) joined ∙ ap (λ m. m + 1) most

held_upto : (s : OperationSet) (op : OpView) → Holds s op → AllByRecursion (λ c. c < next s) (named_counters op)
held_upto s (Insert id parent ch) h =
    let whole = parts_of s in
    let part = greatest (counters (each insertion (map.entries s.ins))) in
    all_weaker (λ c. c ≤ part) (λ c. c < next s) (λ c le. omega (arith, whole, le)) (named_counters (Insert id parent ch))
    (found_upto (map.entries s.ins) id (record { parent = parent; ch = ch }) (sym (map.get-entries s.ins id) ∙ h))
held_upto s (Erase target) h =
    let whole = parts_of s in
    let part = greatest (counters (each Erase (set.items s.del))) in
    all_weaker (λ c. c ≤ part) (λ c. c < next s) (λ c le. omega (arith, whole, le)) (named_counters (Erase target))
    (marked_upto (set.items s.del) target (sym (set.contains-items s.del target) ∙ h))

all_of : (P : ℕ → Type 0) (xs : List ℕ) → AllByRecursion P xs → All P xs
all_of P [] h = All-nil P
all_of P (x ∷ xs) h = All-cons P x xs h.0 (all_of P xs h.1)

pub next-above : (s : OperationSet) (op : OpView) → Holds s op → All (λ c. c < next s) (named_counters op)
next-above s op h = all_of (λ c. c < next s) (named_counters op) (held_upto s op h)

-- ---- and the greatest is named

greatest_below : (n : ℕ) (xs : List ℕ) → 0 < n → AllByRecursion (λ c. c < n) xs → greatest xs < n
greatest_below n [] some h = some
greatest_below n (x ∷ xs) some h = let rest = greatest_below n xs some h.1 in let first = h.0 in omega arith

all_append : (P : ℕ → Type 0) (xs ys : List ℕ) → AllByRecursion P xs → AllByRecursion P ys → AllByRecursion P (xs ++ ys)
all_append P [] ys p q = q
all_append P (x ∷ xs) ys p q = (p.0, all_append P xs ys p.1 q)

all_named : {A : Type 0} (P : ℕ → Type 0) (f : A → OpView) (xs : List A) → AllByRecursion (λ x. AllByRecursion P (named_counters (f x))) xs → AllByRecursion P (counters (each f xs))
all_named P f [] h = tt
all_named P f (x ∷ xs) h = all_append P (named_counters (f x)) (counters (each f xs)) h.0 (all_named P f xs h.1)

marked_itself : (ts us : List Identifier) → ((t : Identifier) → list_any (same_id t) us ≡ true → list_any (same_id t) ts ≡ true) → AllByRecursion (λ t. list_any (same_id t) ts ≡ true) us
marked_itself ts [] keep = tt
marked_itself ts (u ∷ us) keep = (
  keep u (ap (λ b. b || list_any (same_id u) us) (same_id-itself u)),
  marked_itself ts us (λ t h. keep t (or_last (same_id t u) (list_any (same_id t) us) h)),
) where
  or_last : (a b : Bool) → b ≡ true → (a || b) ≡ true
  or_last true b h = refl
  or_last false b h = h

pub next-least : (s : OperationSet) (n : ℕ) → 0 < n → ((op : OpView) → Holds s op → All (λ c. c < n) (named_counters op)) → next s ≤ n
next-least s n some above =
    let P : ℕ → Type 0 = λ c. c < n in
    let by_op : (op : OpView) → Holds s op → AllByRecursion P (named_counters op) = λ op h. recursion_from_All P (named_counters op) (above op h) in
    let ins : AllByRecursion (λ e. AllByRecursion P (named_counters (insertion e))) (map.entries s.ins) =
    all_weaker (λ e. map.get s.ins e.0 ≡ Some e.1) (λ e. AllByRecursion P (named_counters (insertion e))) (λ e found. by_op (insertion e) found) (map.entries s.ins) (entries-found s.ins) in
    let del : AllByRecursion (λ t. AllByRecursion P (named_counters (Erase t))) (set.items s.del) =
    all_weaker (λ t. list_any (same_id t) (set.items s.del) ≡ true) (λ t. AllByRecursion P (named_counters (Erase t))) (λ t found. by_op (Erase t) (set.contains-items s.del t ∙ found)) (set.items s.del)
    (marked_itself (set.items s.del) (set.items s.del) (λ t h. h)) in
    let a = greatest_below n (counters (each insertion (map.entries s.ins))) some (all_named P insertion (map.entries s.ins) ins) in
    let b = greatest_below n (counters (each Erase (set.items s.del))) some (all_named P Erase (set.items s.del) del) in
    let whole = parts_of s in
    omega (arith, whole, a, b)
