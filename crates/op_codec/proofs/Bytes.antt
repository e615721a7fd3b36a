-- Numbers and identifiers that were read from bytes are spelled by those bytes.
use Rattle.std.proofs.Common.{◌≡◌, ℕ, ◌+◌, ◌<◌, ◌≤◌, List, ◌++◌, length, get_or, take, drop, sym, ap, ◌∙◌, append_assoc, arith, inl, inr}
use Rattle.std.specs.Int.{w16, w32, from_be_bytes}
use Rattle.std.proofs.lemmas.Bool.{cases_lt}
use Rattle.std.proofs.lemmas.List.{take-append-drop, length-take, length-drop, get_or-drop, get_or-take, get_or_past, drop-drop}
use Rattle.std.proofs.lemmas.Nat.{be_bytes_2, be_bytes_4}
use Rattle.byteorder.specs.Endian.{big_bytes, big_number}
use Rattle.byteorder.specs.Numbers.{big_from-take}
use Rattle.op_codec.specs.Spelling.{identifier_bytes}
use Rattle.op_codec.specs.Fault.{identifier_at}

abbrev pub IsBytes : List ℕ → Type 0
IsBytes bytes = (i : ℕ) → get_or bytes i 0 < 256

pub IsBytes-drop : (n : ℕ) (bytes : List ℕ) → IsBytes bytes → IsBytes (drop n bytes)
IsBytes-drop n bytes h i = rw get_or-drop (h (n + i))

pub IsBytes-take : (n : ℕ) (bytes : List ℕ) → IsBytes bytes → IsBytes (take n bytes)
IsBytes-take n bytes h i =
    elim (cases_lt i n) [
      | inl lt ↦ rw (get_or-take n bytes i 0 lt) (h i)
      | inr le ↦ rw (get_or_past (take n bytes) i 0 (omega (arith, length-take n bytes))) (omega arith)
    ]

pub two_bytes : (bytes : List ℕ) → IsBytes bytes → 2 ≤ length bytes → bytes ≡ big_bytes 2 (big_number 2 bytes) ++ drop 2 bytes
two_bytes bytes fits long =
    let same : big_number 2 bytes ≡ from_be_bytes w16 (take 2 bytes) = sym (big_from-take 0 2 2 bytes (omega arith)) ∙ omega arith in
    let front : big_bytes 2 (big_number 2 bytes) ≡ take 2 bytes = be_bytes_2 (take 2 bytes) _ (omega (arith, length-take 2 bytes)) (IsBytes-take 2 bytes fits) same in
    sym (take-append-drop 2 bytes) ∙ ap (λ (s : List ℕ). s ++ drop 2 bytes) (sym front)

pub four_bytes : (bytes : List ℕ) → IsBytes bytes → 4 ≤ length bytes → bytes ≡ big_bytes 4 (big_number 4 bytes) ++ drop 4 bytes
four_bytes bytes fits long =
    let same : big_number 4 bytes ≡ from_be_bytes w32 (take 4 bytes) = sym (big_from-take 0 4 4 bytes (omega arith)) ∙ omega arith in
    let front : big_bytes 4 (big_number 4 bytes) ≡ take 4 bytes = be_bytes_4 (take 4 bytes) _ (omega (arith, length-take 4 bytes)) (IsBytes-take 4 bytes fits) same in
    sym (take-append-drop 4 bytes) ∙ ap (λ (s : List ℕ). s ++ drop 4 bytes) (sym front)

pub identifier_takes : (bytes : List ℕ) → IsBytes bytes → 6 ≤ length bytes → bytes ≡ identifier_bytes (identifier_at bytes) ++ drop 6 bytes
identifier_takes bytes fits long =
    let c = big_bytes 4 (big_number 4 bytes) in
    let s = big_bytes 2 (big_number 2 (drop 4 bytes)) in
    let second : drop 4 bytes ≡ s ++ drop 6 bytes =
    two_bytes (drop 4 bytes) (IsBytes-drop 4 bytes fits) (omega (arith, length-drop 4 bytes)) ∙ ap (λ (r : List ℕ). s ++ r) (drop-drop 2 4 bytes) in
    four_bytes bytes fits (omega arith) ∙ ap (λ (r : List ℕ). c ++ r) second ∙ sym (append_assoc c s (drop 6 bytes))
