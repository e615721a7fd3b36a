-- What tables by identifier answer, by the test of equality that goes with the order.
use Rattle.std.proofs.Common.{◌≡◌, ◌≤◌, ◌+◌, ◌++◌, ℕ, Bool, true, false, cond, ◌&&◌, ◌||◌, List, [], ◌∷◌, length, Option, None, Some, sym, ap, ◌∙◌, refl, zero, suc, ◌-◌, arith, true≢false, Ok, Err}
use Rattle.std.specs.Prelude.{◌==◌, map as each, slice_get, Result, IsOk, OnOk, OnErr, IfOk, is_some, is_ok, not, IsSome, IsNone}
use Rattle.std.specs.Ordering.{is_eq, nat_cmp, ordering_then}
use Rattle.std.specs.declared.cmp.Ordering.{Ordering}
use Rattle.std.specs.declared.cmp.Ordering.TheVariants.{Less, Equal, Greater}
use Rattle.std.specs.Cmp.{unsigned_tied, eq_by_cmp_equiv, IsEquivalence}
use Rattle.std.specs.List.{list_any, IsDistinct, AllByRecursion}
use Rattle.std.specs.Map.{lookup}
use Rattle.std.proofs.lemmas.List.Folds.{list_any-append}
use Rattle.std.proofs.lemmas.Map.Made.{length-le_from_is_member}
use Rattle.bg_types.specs.Identifier.{Identifier, same_id}
use Rattle.bg_types.proofs.Interface.{id_cmp-total, same_id-itself}
use Rattle.pending_ops.specs.Chains.{AreApart, is_in}
pub use Rattle.bg_types.proofs.Interface.{one_of}
use Rattle.std.proofs.lemmas.Bool.{or_parts, or_right}

pub same_id-equivalence : IsEquivalence same_id
same_id-equivalence = eq_by_cmp_equiv id_cmp-total

-- what the derived `==` computes
abbrev pub id_eq : Identifier → Identifier → Bool
id_eq a b = (a.counter == b.counter) && (a.site == b.site)

pub id_eq-is : (a b : Identifier) → id_eq a b ≡ same_id a b
id_eq-is a b = (λ i. sym (unsigned_tied a.counter b.counter) i && sym (unsigned_tied a.site b.site) i) ∙ both (nat_cmp a.counter b.counter) (nat_cmp a.site b.site)
  where
    both : (o p : Ordering) → (is_eq o && is_eq p) ≡ is_eq (ordering_then o p)
    both Less p = refl
    both Equal p = refl
    both Greater p = refl

pub lookup-id_eq : {X : Type 0} (es : List (Identifier × X)) (q : Identifier) → lookup (id_eq q) es ≡ lookup (same_id q) es
lookup-id_eq [] q = refl
lookup-id_eq (x ∷ es) q = λ i. cond (id_eq-is q x.0 i) (Some x.1) (lookup-id_eq es q i)

pub list_any-id_eq : (xs : List Identifier) (q : Identifier) → list_any (id_eq q) xs ≡ is_in xs q
list_any-id_eq [] q = refl
list_any-id_eq (x ∷ xs) q = λ i. id_eq-is q x i || list_any-id_eq xs q i

-- a table with one entry less, changed or more
pub lookup-updated : {X : Type 0} (es fs : List (Identifier × X)) (id : Identifier) (w : Option X)
    → ((q : Identifier) → lookup (id_eq q) fs ≡ cond (id_eq id q) w (lookup (id_eq q) es))
    → (q : Identifier) → lookup (same_id q) fs ≡ cond (same_id id q) w (lookup (same_id q) es)
lookup-updated es fs id w h q = sym (lookup-id_eq fs q) ∙ h q ∙ (λ i. cond (id_eq-is id q i) w (lookup-id_eq es q i))

pub is_in-updated : (xs ys : List Identifier) (id : Identifier) (b : Bool)
    → ((q : Identifier) → list_any (id_eq q) ys ≡ cond (id_eq id q) b (list_any (id_eq q) xs))
    → (q : Identifier) → is_in ys q ≡ cond (same_id id q) b (is_in xs q)
is_in-updated xs ys id b h q = sym (list_any-id_eq ys q) ∙ h q ∙ (λ i. cond (id_eq-is id q i) b (list_any-id_eq xs q i))

pub is_in-append : (q : Identifier) (xs ys : List Identifier) → is_in (xs ++ ys) q ≡ (is_in xs q || is_in ys q)
is_in-append q xs ys = list_any-append (same_id q) xs ys

pub is_in-later : (q x : Identifier) (xs : List Identifier) → is_in xs q ≡ true → is_in (x ∷ xs) q ≡ true
is_in-later q x xs m = or_right (same_id q x) (is_in xs q) m

pub is_in-here : (x : Identifier) (xs : List Identifier) → is_in (x ∷ xs) x ≡ true
is_in-here x xs = ap (λ b. b || is_in xs x) (same_id-itself x)

-- each occurs once in both together
pub AreApart-append : (xs ys : List Identifier) → AreApart xs → AreApart ys → ((q : Identifier) → is_in xs q ≡ true → is_in ys q ≡ false) → AreApart (xs ++ ys)
AreApart-append [] ys h k others = k
AreApart-append (x ∷ xs) ys h k others =
    let here : is_in ys x ≡ false = others x (is_in-here x xs) in
    (is_in-append x xs ys ∙ (λ i. h.0 i || here i), AreApart-append xs ys h.1 k (λ q m. others q (is_in-later q x xs m)))

none_is : (x : Identifier) (xs : List Identifier) → is_in xs x ≡ false → AllByRecursion (λ y. same_id x y ≡ false) xs
none_is x [] h = tt
none_is x (y ∷ ys) h = let p = or_parts (same_id x y) (is_in ys x) h in (p.0, none_is x ys p.1)

pub AreApart-distinct : (xs : List Identifier) → AreApart xs → IsDistinct same_id xs
unfolding IsDistinct
AreApart-distinct [] h = tt
AreApart-distinct (x ∷ xs) h = (none_is x xs h.0, AreApart-distinct xs h.1)

not_among : (x : Identifier) (xs : List Identifier) → AllByRecursion (λ y. same_id x y ≡ false) xs → is_in xs x ≡ false
not_among x [] h = refl
not_among x (y ∷ ys) h = λ i. h.0 i || not_among x ys h.1 i

pub IsDistinct-apart : (xs : List Identifier) → IsDistinct same_id xs → AreApart xs
unfolding IsDistinct
IsDistinct-apart [] h = tt
IsDistinct-apart (x ∷ xs) h = (not_among x xs h.0, IsDistinct-apart xs h.1)

eq_none : (x : Identifier) (xs : List Identifier) → AllByRecursion (λ y. id_eq x y ≡ false) xs → is_in xs x ≡ false
eq_none x [] h = refl
eq_none x (y ∷ ys) h = λ i. (sym (id_eq-is x y) ∙ h.0) i || eq_none x ys h.1 i

-- the keys of a table occur once each
pub IsDistinct-id_eq : (xs : List Identifier) → IsDistinct id_eq xs → AreApart xs
unfolding IsDistinct
IsDistinct-id_eq [] h = tt
IsDistinct-id_eq (x ∷ xs) h = (eq_none x xs h.0, IsDistinct-id_eq xs h.1)

-- no more than there are of those among which they stand
pub length-le : (xs ys : List Identifier) → AreApart xs → ((q : Identifier) → is_in xs q ≡ true → is_in ys q ≡ true) → length xs ≤ length ys
length-le xs ys apart among = length-le_from_is_member same_id-equivalence xs ys (AreApart-distinct xs apart) among

abbrev pub keys_of : {X : Type 0} → List (Identifier × X) → List Identifier
keys_of es = each (λ e. e.0) es

pub length-keys_of : {X : Type 0} (es : List (Identifier × X)) → length (keys_of es) ≡ length es
length-keys_of [] = refl
length-keys_of (x ∷ es) = ap (λ n. suc n) (length-keys_of es)

pub is_in-keys_of : {X : Type 0} (es : List (Identifier × X)) (q : Identifier) (x : X) → lookup (same_id q) es ≡ Some x → is_in (keys_of es) q ≡ true
is_in-keys_of [] q x e = let f : None ≡ Some x = e in cc
is_in-keys_of (y ∷ es) q x e =
    elim (same_id q y.0) as (λ b. cond b (Some y.1) (lookup (same_id q) es) ≡ Some x → (b || is_in (keys_of es) q) ≡ true) [
      | true ↦ λ _. refl
      | false ↦ λ f. is_in-keys_of es q x f
    ] e

pub from_ok : {A E : Type 0} (r : Result A E) (P : Type 0) → IsOk r → OnOk r P → P
from_ok (Ok x) P h p = p
from_ok (Err e) P h p = absurd (true≢false (sym h))

pub is_in-slice_get : (xs : List Identifier) (k : ℕ) (x : Identifier) → slice_get xs k ≡ Some x → is_in xs x ≡ true
is_in-slice_get [] k x h = let e : None ≡ Some x = h in cc
is_in-slice_get (y ∷ ys) zero x h =
    let same : y ≡ x = let e : Some y ≡ Some x = h in cc in
    ap (λ z. is_in (z ∷ ys) x) same ∙ is_in-here x ys
is_in-slice_get (y ∷ ys) (suc k) x h = is_in-later x y ys (is_in-slice_get ys k x h)

pub before_last : (xs : List Identifier) (x : Identifier) → slice_get xs (length xs - 1) ≡ Some x → (before : List Identifier) × (xs ≡ before ++ x ∷ [])
before_last [] x h = let e : None ≡ Some x = h in cc
before_last (y ∷ []) x h = let e : Some y ≡ Some x = h in let same : y ≡ x = cc in ([], ap (λ z. z ∷ []) same)
before_last (y ∷ z ∷ zs) x h =
    let at : length (y ∷ z ∷ zs) - 1 ≡ suc (length (z ∷ zs) - 1) = omega arith in
    let rest = before_last (z ∷ zs) x (ap (λ n. slice_get (y ∷ z ∷ zs) n) (sym at) ∙ h) in
    (y ∷ rest.0, ap (λ ws. y ∷ ws) rest.1)

pub one_less : (b : Bool) (n m : ℕ) → b ≡ true → n + cond b 1 0 ≡ m → n + 1 ≡ m
one_less true n m h e = e
one_less false n m h e = absurd (true≢false (sym h))

pub one_less_at_most : (b : Bool) (n m : ℕ) → n + cond b 1 0 ≡ m → m ≤ n + 1
one_less_at_most true n m e = omega arith
one_less_at_most false n m e = omega arith

-- writing a key adds at most one
pub one_more : {X E : Type 0} (r : Result (Option X) E) (n m : ℕ) → IsOk r → IfOk r (λ old. n ≡ m + cond (is_some old) 0 1) → n ≤ m + 1
one_more (Ok None) n m ok e = omega arith
one_more (Ok (Some old)) n m ok e = omega arith
one_more (Err x) n m ok e = absurd (true≢false (sym ok))

pub ok_is : {A E : Type 0} (r : Result A E) (x : A) → r ≡ Ok x → IsOk r
ok_is r x e = ap is_ok e

-- a call succeeds where what it says after a failure would let it succeed
pub ok_if : {A E : Type 0} (r : Result A E) (P : Type 0) → OnErr r P → (P → IsOk r) → IsOk r
ok_if (Ok x) P p k = refl
ok_if (Err e) P p k = k p

-- a new key is one more
pub added_one : {E : Type 0} (r : Result Bool E) (b : Bool) (n m : ℕ) → IsOk r → b ≡ false → IfOk r (λ x. x ≡ not b) → IfOk r (λ x. n ≡ m + cond x 1 0) → n ≡ m + 1
added_one (Ok x) b n m ok new is len = len ∙ ap (λ y. m + cond y 1 0) (is ∙ ap not new)
added_one (Err e) b n m ok new is len = absurd (true≢false (sym ok))

pub none_there : {X : Type 0} (o : Option X) → is_some o ≡ false → o ≡ None
none_there None h = refl
none_there (Some x) h = absurd (true≢false h)

pub not_both : {X : Type 0} (o : Option X) → IsSome o → IsNone o → ⊥
not_both None some none = true≢false (sym some)
not_both (Some x) some none = true≢false (sym some ∙ none)
