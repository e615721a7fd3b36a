-- A list that is filled from its front with what elements come to.
use Rattle.std.proofs.Common.{◌≡◌, ◌<◌, ◌+◌, ℕ, zero, suc, List, [], ◌∷◌, ◌++◌, map, length, take, drop, set, get_or, refl, sym, ap, ◌∙◌, add-one, arith}

filled_suc : {X Y : Type 0} (f : X → Y) (es : List X) (xs : List Y) (j : ℕ) (d : X) → j < length es → length es < length xs + 1
    → set (map f (take j es) ++ drop j xs) j (f (get_or es j d)) ≡ map f (take (suc j) es) ++ drop (suc j) xs
filled_suc f [] xs j d within room = absurd (omega (arith, within))
filled_suc f (x ∷ es) [] j d within room = absurd (omega (arith, room))
filled_suc f (x ∷ es) (y ∷ xs) zero d within room = refl
filled_suc f (x ∷ es) (y ∷ xs) (suc j) d within room = ap (λ ys. f x ∷ ys) (filled_suc f es xs j d (omega (arith, within)) (omega (arith, room)))

-- one more of them
pub filled_next : {X Y : Type 0} (f : X → Y) (es : List X) (xs : List Y) (j : ℕ) (d : X) → j < length es → length es < length xs + 1
    → set (map f (take j es) ++ drop j xs) j (f (get_or es j d)) ≡ map f (take (j + 1) es) ++ drop (j + 1) xs
filled_next f es xs j d within room = filled_suc f es xs j d within room ∙ ap (λ n. map f (take n es) ++ drop n xs) (sym (add-one j))
