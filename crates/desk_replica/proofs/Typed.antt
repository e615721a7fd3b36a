-- A character is typed at a place: the walk and the text get it there.
use Rattle.std.proofs.Common.{◌≡◌, ◌<◌, ◌+◌, ℕ, zero, suc, Bool, true, false, not, cond, List, [], ◌∷◌, drop, Some, sym, ap, subst, ◌∙◌, refl, true≢false, arith}
use Rattle.std.specs.Prelude.{◌&&◌, slice_get, filter, insert, remove, map as each}
use Rattle.std.specs.List.{AllByRecursion, prefix_len}
use Rattle.std.specs.Ordering.{nat_cmp, is_lt, ordering_then}
use Rattle.std.specs.declared.cmp.Ordering.TheVariants.{Greater}
use Rattle.std.specs.Cmp.{nat_cmp_is}
use Rattle.bg_types.specs.Identifier.{Identifier, id_cmp, same_id}
use Rattle.bg_types.specs.OperationSet.{OperationSet}
use Rattle.bg_types.proofs.Interface.{same_id-is, same_id-itself}
use Rattle.rga_tree.specs.Elements.{element_of}
use Rattle.rga_tree.proofs.Interface.{Entry, IsAbsent, AreDistinct, same_id-swap, all_passing, all_weaker_by}
use Rattle.desk_replica.proofs.Lists.{all_at}
use Rattle.std.proofs.lemmas.Option.{slice_get_within}

-- none of the absent identifier passes
not_among : (a : Identifier) (p : Entry → Bool) (es : List Entry) (j : ℕ) (x : Entry) → IsAbsent a es → slice_get (filter p es) j ≡ Some x → same_id a x.0 ≡ false
not_among a p es j x absent h = all_at (λ (e : Entry). same_id a e.0 ≡ false) (filter p es) j x
    (all_passing (λ e. same_id a e.0 ≡ false) p es (all_weaker_by (λ e. same_id a e.0 ≡ false) (λ e. p e ≡ true → same_id a e.0 ≡ false) es (λ e k _. k) absent)) h

one_of_some : (x y : Entry) → Some x ≡ Some y → x ≡ y
one_of_some x y e = cc

-- after the j-th passing element, which is the only one of its identifier
pub filter-behind : (p : Entry → Bool) (n : Entry) (es : List Entry) (j m : ℕ) (x : Entry) → p n ≡ true → AreDistinct es → slice_get (filter p es) j ≡ Some x
    → m ≡ prefix_len (λ e. not (same_id x.0 e.0)) es + 1 → filter p (insert es m n) ≡ insert (filter p es) (suc j) n
filter-behind p n [] j m x passes distinct h e = absurd (let w = slice_get_within [] j x h in omega arith)
filter-behind p n (y ∷ es) j zero x passes distinct h e = absurd (omega arith)
filter-behind p n (y ∷ es) j (suc m) x passes distinct h e =
    elim (same_id x.0 y.0) as (λ b. same_id x.0 y.0 ≡ b → suc m ≡ cond (not b) (1 + prefix_len (λ z. not (same_id x.0 z.0)) es) 0 + 1 → filter p (y ∷ insert es m n) ≡ insert (filter p (y ∷ es)) (suc j) n) [
      | true ↦ λ here k. first here (omega arith)
      | false ↦ λ other k. later (λ i f z. filter-behind p n es i m x passes distinct.1 f z) other (omega arith)
    ] refl e
  where
    absent : same_id x.0 y.0 ≡ true → IsAbsent x.0 es
    absent here = subst (λ a. IsAbsent a es) (sym (same_id-is x.0 y.0 here)) distinct.0

    at_front : filter p (insert es 0 n) ≡ n ∷ filter p es
    at_front = ap (λ b. cond b (n ∷ filter p es) (filter p es)) passes

    first : same_id x.0 y.0 ≡ true → m ≡ 0 → filter p (y ∷ insert es m n) ≡ insert (filter p (y ∷ es)) (suc j) n
    first here z = ap (λ k. filter p (y ∷ insert es k n)) z ∙ by (p y) j refl h
      where
        by : (b : Bool) (j : ℕ) → p y ≡ b → slice_get (cond b (y ∷ filter p es) (filter p es)) j ≡ Some x
            → cond b (y ∷ filter p (insert es 0 n)) (filter p (insert es 0 n)) ≡ insert (cond b (y ∷ filter p es) (filter p es)) (suc j) n
        by true zero q k = ap (λ l. y ∷ l) at_front
        by true (suc j) q k = absurd (true≢false (sym (same_id-itself x.0) ∙ not_among x.0 p es j x (absent here) k))
        by false j q k = absurd (true≢false (sym (same_id-itself x.0) ∙ not_among x.0 p es j x (absent here) k))

    later : ((i : ℕ) → slice_get (filter p es) i ≡ Some x → m ≡ prefix_len (λ z. not (same_id x.0 z.0)) es + 1 → filter p (insert es m n) ≡ insert (filter p es) (suc i) n)
        → same_id x.0 y.0 ≡ false → m ≡ prefix_len (λ z. not (same_id x.0 z.0)) es + 1 → filter p (y ∷ insert es m n) ≡ insert (filter p (y ∷ es)) (suc j) n
    later deeper other z = by (p y) j h
      where
        by : (b : Bool) (j : ℕ) → slice_get (cond b (y ∷ filter p es) (filter p es)) j ≡ Some x
            → cond b (y ∷ filter p (insert es m n)) (filter p (insert es m n)) ≡ insert (cond b (y ∷ filter p es) (filter p es)) (suc j) n
        by true zero k = absurd (true≢false (sym (same_id-itself x.0) ∙ ap (λ (w : Entry). same_id x.0 w.0) (sym (one_of_some y x k)) ∙ other))
        by true (suc j) k = ap (λ l. y ∷ l) (deeper j k z)
        by false j k = deeper j k z

-- at the front
pub filter-front : (p : Entry → Bool) (n : Entry) (es : List Entry) → p n ≡ true → filter p (insert es 0 n) ≡ insert (filter p es) 0 n
filter-front p n es passes = ap (λ b. cond b (n ∷ filter p es) (filter p es)) passes

pub each-insert : {X Y : Type 0} (f : X → Y) (xs : List X) (k : ℕ) (x : X) → each f (insert xs k x) ≡ insert (each f xs) k (f x)
each-insert f [] zero x = refl
each-insert f [] (suc k) x = refl
each-insert f (y ∷ xs) zero x = refl
each-insert f (y ∷ xs) (suc k) x = ap (λ l. f y ∷ l) (each-insert f xs k x)

-- a row of elements is searched as its entries are
pub prefix_row : (s : OperationSet) (a : Identifier) (es : List Entry) → prefix_len (λ e. not (same_id a e.id)) (each (element_of s) es) ≡ prefix_len (λ e. not (same_id a e.0)) es
prefix_row s a [] = refl
prefix_row s a (e ∷ es) = ap (λ n. cond (not (same_id a e.0)) (1 + n) 0) (prefix_row s a es)

-- none is greater than an identifier above all of them
pub none_greater : (s : OperationSet) (k : Identifier) (n : ℕ) (es : List Entry) → AllByRecursion (λ (e : Entry). is_lt (id_cmp k e.0) ≡ false) es → prefix_len (λ e. is_lt (id_cmp k e.id)) (drop n (each (element_of s) es)) ≡ 0
none_greater s k zero [] h = refl
none_greater s k (suc n) [] h = refl
none_greater s k zero (e ∷ es) h = ap (λ b. cond b (1 + prefix_len (λ x. is_lt (id_cmp k x.id)) (each (element_of s) es)) 0) h.0
none_greater s k (suc n) (e ∷ es) h = none_greater s k n es h.1

-- an identifier with a smaller counter is not greater
pub lower : (k q : Identifier) → q.counter < k.counter → is_lt (id_cmp k q) ≡ false
lower k q h = ap (λ o. is_lt (ordering_then o (nat_cmp k.site q.site))) (sym (nat_cmp_is k.counter q.counter Greater h))

-- ---- what one more mark leaves

-- without the j-th passing element, which is the only one of its identifier
pub filter-without : (p q : Entry → Bool) (es : List Entry) (j : ℕ) (x : Entry) → ((e : Entry) → q e ≡ (not (same_id e.0 x.0) && p e)) → AreDistinct es → slice_get (filter p es) j ≡ Some x → filter q es ≡ remove (filter p es) j
filter-without p q [] j x marks distinct h = absurd (let w = slice_get_within [] j x h in omega arith)
filter-without p q (y ∷ es) j x marks distinct h = by (same_id x.0 y.0) (p y) j refl refl h (λ i k. filter-without p q es i x marks distinct.1 k)
  where
    turned : (b : Bool) → same_id x.0 y.0 ≡ b → same_id y.0 x.0 ≡ b
    turned b e = same_id-swap y.0 x.0 ∙ e

    keep : (b c : Bool) → same_id y.0 x.0 ≡ b → p y ≡ c → q y ≡ (not b && c)
    keep b c e f = marks y ∙ (λ i. not (e i) && f i)

    absent : same_id x.0 y.0 ≡ true → IsAbsent x.0 es
    absent here = subst (λ a. IsAbsent a es) (sym (same_id-is x.0 y.0 here)) distinct.0

    same_rest : (fs : List Entry) → IsAbsent x.0 fs → filter q fs ≡ filter p fs
    same_rest [] k = refl
    same_rest (z ∷ fs) k = λ i. cond ((marks z ∙ (λ l. not ((same_id-swap z.0 x.0 ∙ k.0) l) && p z)) i) (z ∷ same_rest fs k.1 i) (same_rest fs k.1 i)

    by : (b c : Bool) (j : ℕ) → same_id x.0 y.0 ≡ b → p y ≡ c → slice_get (cond c (y ∷ filter p es) (filter p es)) j ≡ Some x
        → ((i : ℕ) → slice_get (filter p es) i ≡ Some x → filter q es ≡ remove (filter p es) i)
        → cond (q y) (y ∷ filter q es) (filter q es) ≡ remove (cond c (y ∷ filter p es) (filter p es)) j
    by true true zero e f k deeper = ap (λ b. cond b (y ∷ filter q es) (filter q es)) (keep true true (turned true e) f) ∙ same_rest es (absent e)
    by true true (suc j) e f k deeper = absurd (true≢false (sym (same_id-itself x.0) ∙ not_among x.0 p es j x (absent e) k))
    by true false j e f k deeper = absurd (true≢false (sym (same_id-itself x.0) ∙ not_among x.0 p es j x (absent e) k))
    by false true zero e f k deeper = absurd (true≢false (sym (same_id-itself x.0) ∙ ap (λ (w : Entry). same_id x.0 w.0) (sym (one_of_some y x k)) ∙ e))
    by false true (suc j) e f k deeper = ap (λ b. cond b (y ∷ filter q es) (filter q es)) (keep false true (turned false e) f) ∙ ap (λ l. y ∷ l) (deeper j k)
    by false false j e f k deeper = ap (λ b. cond b (y ∷ filter q es) (filter q es)) (keep false false (turned false e) f) ∙ deeper j k

pub each-remove : {X Y : Type 0} (f : X → Y) (xs : List X) (k : ℕ) → each f (remove xs k) ≡ remove (each f xs) k
each-remove f [] zero = refl
each-remove f [] (suc k) = refl
each-remove f (y ∷ xs) zero = refl
each-remove f (y ∷ xs) (suc k) = ap (λ l. f y ∷ l) (each-remove f xs k)
