-- UTF-8 of characters that take two bytes and more.
use Rattle.std.proofs.Common.{◌≡◌, ℕ, ◌+◌, ◌/◌, ◌%◌, ◌<◌, ◌≤◌, ◌++◌, List, [], ◌∷◌, ◌∙◌, sym, ap, append_assoc, arith}
use lib.Utf8.{encode}

pub encode-two : (c : ℕ) → 128 ≤ c → c < 2048 → encode c ≡ (192 + c / 64) ∷ (128 + c % 64) ∷ []
unfolding encode
encode-two c least most = grind arith

-- both bytes behind what stands before them
pub two-behind : (before : List ℕ) (c : ℕ) → 128 ≤ c → c < 2048 → (before ++ (192 + c / 64) ∷ []) ++ (128 + c % 64) ∷ [] ≡ before ++ encode c
two-behind before c least most = append_assoc before _ _ ∙ ap (λ t. before ++ t) (sym (encode-two c least most))

pub encode-three : (c : ℕ) → 2048 ≤ c → c < 65536 → encode c ≡ (224 + c / 4096) ∷ (128 + c / 64 % 64) ∷ (128 + c % 64) ∷ []
unfolding encode
encode-three c least most = grind arith

pub encode-four : (c : ℕ) → 65536 ≤ c → encode c ≡ (240 + c / 262144) ∷ (128 + c / 4096 % 64) ∷ (128 + c / 64 % 64) ∷ (128 + c % 64) ∷ []
unfolding encode
encode-four c least = grind arith

-- one byte more behind what stands before, and then the others
pub one-behind : (before : List ℕ) (x : ℕ) (rest : List ℕ) → (before ++ x ∷ []) ++ rest ≡ before ++ x ∷ rest
one-behind before x rest = append_assoc before (x ∷ []) rest

pub three-behind : (before : List ℕ) (c : ℕ) → 2048 ≤ c → c < 65536
    → ((before ++ (224 + c / 4096) ∷ []) ++ (128 + c / 64 % 64) ∷ []) ++ (128 + c % 64) ∷ [] ≡ before ++ encode c
three-behind before c least most =
    one-behind (before ++ (224 + c / 4096) ∷ []) (128 + c / 64 % 64) ((128 + c % 64) ∷ [])
    ∙ one-behind before (224 + c / 4096) ((128 + c / 64 % 64) ∷ (128 + c % 64) ∷ [])
    ∙ ap (λ t. before ++ t) (sym (encode-three c least most))

pub four-behind : (before : List ℕ) (c : ℕ) → 65536 ≤ c
    → (((before ++ (240 + c / 262144) ∷ []) ++ (128 + c / 4096 % 64) ∷ []) ++ (128 + c / 64 % 64) ∷ []) ++ (128 + c % 64) ∷ [] ≡ before ++ encode c
four-behind before c least =
    one-behind ((before ++ (240 + c / 262144) ∷ []) ++ (128 + c / 4096 % 64) ∷ []) (128 + c / 64 % 64) ((128 + c % 64) ∷ [])
    ∙ one-behind (before ++ (240 + c / 262144) ∷ []) (128 + c / 4096 % 64) ((128 + c / 64 % 64) ∷ (128 + c % 64) ∷ [])
    ∙ one-behind before (240 + c / 262144) ((128 + c / 4096 % 64) ∷ (128 + c / 64 % 64) ∷ (128 + c % 64) ∷ [])
    ∙ ap (λ t. before ++ t) (sym (encode-four c least))
