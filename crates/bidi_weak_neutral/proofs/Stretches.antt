-- Places in a row that are given one thing.
use Rattle.std.proofs.Common.{arith, ℕ, ◌+◌, ◌-◌, ◌<◌, ◌≤◌, ◌≡◌, ap, sym, ◌∙◌, List, [], ◌∷◌, ◌++◌, length, set, take, replicate}
use Rattle.std.proofs.lemmas.List.{append_assoc, replicate_more, take_more_set}

pub stretch-start : {X : Type 0} (xs : List X) (i : ℕ) (z : X) → i < length xs → take (i + 1) (set xs i z) ≡ take i xs ++ replicate ((i + 1) - i) z
stretch-start xs i z lt =
    let one : (i + 1) - i ≡ 1 = omega arith in
    take_more_set xs i z lt ∙ ap (λ n. take i xs ++ replicate n z) (sym one)

pub stretch-more : {X : Type 0} (old xs : List X) (start end : ℕ) (z : X) → start ≤ end → end < length xs
    → take end xs ≡ take start old ++ replicate (end - start) z
    → take (end + 1) (set xs end z) ≡ take start old ++ replicate ((end + 1) - start) z
stretch-more old xs start end z order lt so_far =
    let more : (end + 1) - start ≡ (end - start) + 1 = omega arith in
    take_more_set xs end z lt ∙ ap (λ t. t ++ z ∷ []) so_far ∙ append_assoc (take start old) (replicate (end - start) z) (z ∷ [])
    ∙ ap (λ t. take start old ++ t) (replicate_more (end - start) z) ∙ ap (λ n. take start old ++ replicate n z) (sym more)
