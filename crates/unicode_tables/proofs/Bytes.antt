-- The first bytes of code points.
use Rattle.std.proofs.Common.{◌≡◌, ℕ, ◌+◌, ◌/◌, Bool, true, false, cond, ltb, List, ◌∷◌, get_or, refl, ap, ◌∙◌}
use lib.Utf8.{encode}
use Rattle.unicode_tables.specs.FirstBytes.{first_byte}

head-cond : (b : Bool) (x : ℕ) (xs ys : List ℕ) → get_or (cond b (x ∷ xs) ys) 0 0 ≡ cond b x (get_or ys 0 0)
head-cond true x xs ys = refl
head-cond false x xs ys = refl

pub head-encode : (c : ℕ) → get_or (encode c) 0 0 ≡ first_byte c
unfolding encode
head-encode c =
    head-cond (ltb c 128) c _ _
    ∙ ap (cond (ltb c 128) c) (head-cond (ltb c 2048) (192 + c / 64) _ _ ∙ ap (cond (ltb c 2048) (192 + c / 64)) (head-cond (ltb c 65536) (224 + c / 4096) _ _))
