-- How many items at the front of a list pass a test, as that of being greater.
use Rattle.std.proofs.Common.{◌≡◌, ℕ, suc, ◌<◌, ◌≤◌, ◌+◌, Bool, true, false, cond, List, [], ◌∷◌, ◌++◌, length, take, drop, refl, sym, ap, ◌∙◌, zero-add, arith}
use Rattle.std.specs.List.{prefix_len}
use Rattle.std.specs.Ordering.{is_lt}
use Rattle.std.proofs.lemmas.List.{length-take-le, take-append-drop}
use Rattle.bg_types.specs.Identifier.{Identifier, id_cmp}
use Rattle.rga_tree.specs.declared.element.Element.{Element}

abbrev pub is_greater : Identifier → Element → Bool
is_greater id e = is_lt (id_cmp id e.id)

pub pre_all : {X : Type 0} (p : X → Bool) (xs ys : List X) → prefix_len p xs ≡ length xs → prefix_len p (xs ++ ys) ≡ length xs + prefix_len p ys
pre_all {X} p [] ys h = sym (zero-add (prefix_len p ys))
pre_all {X} p (x ∷ xs) ys h = by_test (λ e. pre_all p xs ys e) (p x) h where
  by_test : (prefix_len p xs ≡ length xs → prefix_len p (xs ++ ys) ≡ length xs + prefix_len p ys) → (b : Bool) → cond b (1 + prefix_len p xs) 0 ≡ suc (length xs) → cond b (1 + prefix_len p (xs ++ ys)) 0 ≡ suc (length xs) + prefix_len p ys
  by_test rest true h = omega (arith, rest (omega arith))
  by_test rest false h = absurd (omega arith)

pub pre_stop : {X : Type 0} (p : X → Bool) (xs ys : List X) → prefix_len p xs < length xs → prefix_len p (xs ++ ys) ≡ prefix_len p xs
pre_stop {X} p [] ys h = absurd (omega arith)
pre_stop {X} p (x ∷ xs) ys h =
    let rest = pre_stop p xs ys in
    elim (p x) as (λ b. cond b (1 + prefix_len p xs) 0 < suc (length xs) → cond b (1 + prefix_len p (xs ++ ys)) 0 ≡ cond b (1 + prefix_len p xs) 0) [
      | true ↦ λ few. ap (λ n. 1 + n) (rest (omega arith))
      | false ↦ λ _. refl
    ] h

-- a list whose first n items are counted first
pub stops_early : {X : Type 0} (p : X → Bool) (xs : List X) (n : ℕ) → n ≤ length xs → prefix_len p (take n xs) < n → prefix_len p xs ≡ prefix_len p (take n xs)
stops_early {X} p xs n many few =
    ap (prefix_len p) (sym (take-append-drop n xs)) ∙ pre_stop p (take n xs) (drop n xs) (omega (arith, few, length-take-le n xs many))

pub goes_on : {X : Type 0} (p : X → Bool) (xs : List X) (n : ℕ) → n ≤ length xs → prefix_len p (take n xs) ≡ n → prefix_len p xs ≡ n + prefix_len p (drop n xs)
goes_on {X} p xs n many whole =
    let len = length-take-le n xs many in
    ap (prefix_len p) (sym (take-append-drop n xs)) ∙ pre_all p (take n xs) (drop n xs) (whole ∙ sym len) ∙ ap (λ m. m + prefix_len p (drop n xs)) len
