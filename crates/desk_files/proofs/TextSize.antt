-- How many bytes code points take.
use Rattle.std.proofs.Common.{ℕ, ◌*◌, ◌≤◌, List, [], ◌∷◌, length, arith, length-append}
use Rattle.std.specs.Prelude.{encode_utf8_all, encode_utf8}
use Rattle.std.proofs.lemmas.Str.{length-encode, len_utf8_bounds}

-- at most four each
pub encoded_within : (cs : List ℕ) → length (encode_utf8_all cs) ≤ 4 * length cs
encoded_within [] = omega arith
encoded_within (c ∷ cs) =
    let rest = encoded_within cs in
    let joined = length-append (encode_utf8 c) (encode_utf8_all cs) in
    let one = length-encode c in
    let most = len_utf8_bounds c in
    omega (arith, rest, joined, one, most)
