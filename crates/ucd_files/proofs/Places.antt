-- The first place of a byte.
use Rattle.std.proofs.Common.{◌≡◌, ◌==◌, ℕ, Bool, true, false, List, length, Some, None, refl, sym, arith}
use Rattle.std.specs.List.{position_or_len}
use Rattle.std.proofs.lemmas.List.Sums.{position_or_len_is}
use Rattle.memchr.specs.Find.{IsFirstByte, is_byte}

not_true : (b : Bool) → (b ≡ true → ⊥) → b ≡ false
not_true true h = absurd (h refl)
not_true false h = refl

pub place-found : (at place : ℕ) (bytes : List ℕ) → IsFirstByte (is_byte at) bytes (Some place) → place ≡ position_or_len (λ b. b == at) bytes
place-found at place bytes h =
    sym (position_or_len_is (λ b. b == at) bytes place 0 (omega (arith, h.0.high)) (λ k below. not_true _ (h.0.before k (omega arith) below)) (λ _. h.1))

pub place-none : (at : ℕ) (bytes : List ℕ) → IsFirstByte (is_byte at) bytes None → length bytes ≡ position_or_len (λ b. b == at) bytes
place-none at bytes h =
    sym (position_or_len_is (λ b. b == at) bytes (length bytes) 0 (omega arith) (λ k below. not_true _ (h k (omega arith) below)) (λ past. absurd (omega (arith, past))))
