-- Texts that are parted between characters.
use Rattle.std.proofs.Common.{◌≡◌, ℕ, ◌+◌, ◌-◌, ◌<◌, ◌≤◌, List, [], ◌++◌, length, take, drop, refl, sym, ap, ap₂, ◌∙◌, false, ◌==◌, inl, inr, String, arith}
use Rattle.std.proofs.lemmas.List.{append_cancel_right, length-append, take-append-drop, drop-drop, nil_from_length}
use Rattle.std.proofs.lemmas.Str.{chars-append, chars-encodes, IsUtf8-string_bytes, encodes-chars}
use Rattle.std.proofs.lemmas.Bool.{cases_lt, eqb-false}
use Rattle.std.proofs.Math.Seq.{drop-append-add}
use Rattle.std.specs.Prelude.{encode_utf8_all, string_bytes, string_len}
use Rattle.std.specs.Str.{IsUtf8}
use Rattle.paragraphs.specs.Text.{code_points}

pub points-none : code_points [] ≡ []
points-none = chars-encodes [] refl

-- what follows is the end of the text
pub end-of : (text first rest : List ℕ) → text ≡ first ++ rest → rest ≡ drop (length text - length rest) text
end-of text first rest is =
    let n : length text - length rest ≡ length first + 0 = omega (arith, ap length is, length-append first rest) in
    sym (ap₂ drop n is ∙ drop-append-add first rest 0)

-- an end of an end
pub end-later : (text some rest : List ℕ) → length some ≤ length text → length rest ≤ length some → some ≡ drop (length text - length some) text → rest ≡ drop (length some - length rest) some
    → rest ≡ drop (length text - length rest) text
end-later text some rest few less is end =
    let n : length text - length some + (length some - length rest) ≡ length text - length rest = omega arith in
    end ∙ ap (drop (length some - length rest)) is ∙ drop-drop (length some - length rest) (length text - length some) text ∙ ap (λ k. drop k text) n

pub later-drop : (points later : List ℕ) (offset left : ℕ) → 0 < left → left ≤ offset → later ≡ drop 1 (drop (offset - left) points) → later ≡ drop (offset - (left - 1)) points
later-drop points later offset left some few is =
    let n : offset - left + 1 ≡ offset - (left - 1) = omega arith in
    is ∙ drop-drop 1 (offset - left) points ∙ ap (λ k. drop k points) n

-- the code points in front of the last ones are the first ones
pub front-points : (text first second : List ℕ) (n : ℕ) → IsUtf8 first → first ++ second ≡ text → code_points second ≡ drop n (code_points text) → code_points first ≡ take n (code_points text)
front-points text first second n u whole back =
    append_cancel_right (code_points first) (take n (code_points text)) (drop n (code_points text))
    (ap (λ t. code_points first ++ t) (sym back) ∙ sym (chars-append first second u) ∙ ap code_points whole ∙ sym (take-append-drop n (code_points text)))

-- a text that is not empty has a code point
pub some-points : {Z : Type 0} (s : String Z) → (string_len s == 0) ≡ false → 0 < length (code_points (string_bytes s))
some-points s some =
    let u = IsUtf8-string_bytes s in
    elim (cases_lt 0 (length (code_points (string_bytes s)))) [
      | inl more ↦ more
      | inr none ↦
          let empty = nil_from_length (code_points (string_bytes s)) (omega (arith, none)) in
          let bytes = ap length (sym (encodes-chars (string_bytes s) u) ∙ ap encode_utf8_all empty) in
          absurd (eqb-false (string_len s) 0 some (omega (arith, bytes, s.bytes.ok)))
    ]
