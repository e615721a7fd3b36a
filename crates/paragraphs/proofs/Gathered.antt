-- The code points of a text, gathered one by one.
use Rattle.std.proofs.Common.{◌≡◌, ℕ, ◌+◌, ◌<◌, ◌≤◌, List, [], ◌∷◌, ◌++◌, length, sym, ap, ◌∙◌, arith}
use Rattle.std.proofs.lemmas.List.{append-nil, append_assoc, length-append, nil_from_length}
use Rattle.std.proofs.lemmas.Str.{chars-nil, chars_past_char, length-le-encodes, encodes-chars}
use Rattle.std.specs.Prelude.{encode_utf8, encode_utf8_all as encodes}
use Rattle.std.specs.Str.{IsUtf8}
use Rattle.paragraphs.specs.Text.{code_points}

-- a character takes a byte at least
pub past_char-shorter : (bytes rest : List ℕ) (c : ℕ) → bytes ≡ encode_utf8 c ++ rest → length rest < length bytes
past_char-shorter bytes rest c e =
    let some = length-le-encodes (c ∷ []) in
    let one : length (encodes (c ∷ [])) ≡ length (encode_utf8 c) + 0 = length-append (encode_utf8 c) [] in
    let all = ap length e ∙ length-append (encode_utf8 c) rest in
    omega arith

-- a text has no more code points than bytes
pub points-fit : (c : List ℕ) → IsUtf8 c → length (code_points c) ≤ length c
points-fit c u = let a = length-le-encodes (code_points c) in let b = ap length (encodes-chars c u) in omega arith

pub points-start : (text rest done : List ℕ) → done ≡ [] → rest ≡ text → done ++ code_points rest ≡ code_points text
points-start text rest done none all = ap (λ l. l ++ code_points rest) none ∙ ap code_points all

pub points-on : (text bytes rest done more : List ℕ) (c : ℕ) → IsUtf8 bytes → bytes ≡ encode_utf8 c ++ rest → done ++ code_points bytes ≡ code_points text
    → more ≡ done ++ c ∷ [] → more ++ code_points rest ≡ code_points text
points-on text bytes rest done more c u e so_far put =
    ap (λ l. l ++ code_points rest) put ∙ append_assoc done (c ∷ []) (code_points rest) ∙ ap (λ l. done ++ l) (sym (chars_past_char bytes rest c u e)) ∙ so_far

pub points-end : (text rest done : List ℕ) → length rest ≡ 0 → done ++ code_points rest ≡ code_points text → done ≡ code_points text
points-end text rest done none so_far =
    sym (append-nil done) ∙ ap (λ l. done ++ l) (sym (ap code_points (nil_from_length rest none) ∙ chars-nil)) ∙ so_far
