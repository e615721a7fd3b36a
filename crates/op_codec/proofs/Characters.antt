-- The characters of a run, and their bytes.
use Rattle.std.proofs.Common.{◌≡◌, ℕ, zero, suc, ◌*◌, ◌/◌, ◌≤◌, true, List, [], ◌∷◌, ◌++◌, length, drop, refl, sym, ap, ◌∙◌, append_assoc, arith}
use Rattle.std.specs.List.{flat_map, list_all, AllByRecursion}
use Rattle.std.specs.Char.{IsScalar}
use Rattle.std.proofs.Math.Utf8.{scalar, scalar_fits}
use Rattle.std.proofs.lemmas.Bool.{and_parts}
use Rattle.std.proofs.lemmas.List.{append-nil, length-drop, length-append}
use Rattle.std.proofs.lemmas.List.Concat.{flat_map-cons}
use Rattle.byteorder.specs.Endian.{big_bytes, big_number}
use Rattle.byteorder.specs.Numbers.{big_number-reads_back}
use Rattle.op_codec.specs.Fault.{characters_at, characters_in}
use Rattle.op_codec.proofs.Bytes.{IsBytes, IsBytes-drop, four_bytes}

pub characters_more : (b : List ℕ) → 4 ≤ length b → characters_in b ≡ big_number 4 b ∷ characters_in (drop 4 b)
characters_more b long =
    let fewer : length b / 4 ≡ suc (length (drop 4 b) / 4) = omega (arith, length-drop 4 b, long) in
    ap (λ (n : ℕ). characters_at n b) fewer

pub length-characters_at : (n : ℕ) (b : List ℕ) → length (characters_at n b) ≡ n
length-characters_at zero b = refl
length-characters_at (suc n) b = omega (arith, length-characters_at n (drop 4 b))

pub length-characters_in : (b : List ℕ) → length (characters_in b) ≡ length b / 4
length-characters_in b = length-characters_at (length b / 4) b

empty : (b : List ℕ) → length b ≡ 0 → [] ≡ b
empty [] e = refl
empty (x ∷ b) e = absurd (omega (arith, e))

-- bytes, four for each character, are those of the characters
spelled_at : (n : ℕ) (b : List ℕ) → IsBytes b → length b ≡ 4 * n → flat_map (big_bytes 4) (characters_at n b) ≡ b
spelled_at zero b fits size = empty b (omega (arith, size))
spelled_at (suc n) b fits size =
    flat_map-cons (big_bytes 4) (big_number 4 b) (characters_at n (drop 4 b))
    ∙ ap (λ (s : List ℕ). big_bytes 4 (big_number 4 b) ++ s) (spelled_at n (drop 4 b) (IsBytes-drop 4 b fits) (omega (arith, size, length-drop 4 b)))
    ∙ sym (four_bytes b fits (omega (arith, size)))

pub characters_spelled : (n : ℕ) (b : List ℕ) → IsBytes b → length b ≡ 4 * n → flat_map (big_bytes 4) (characters_in b) ≡ b
characters_spelled n b fits size =
    let count : length b / 4 ≡ n = omega (arith, size) in
    ap (λ (k : ℕ). flat_map (big_bytes 4) (characters_at k b)) count ∙ spelled_at n b fits size

more_bytes : (c : ℕ) (cs x : List ℕ) → flat_map (big_bytes 4) (c ∷ cs) ++ x ≡ big_bytes 4 c ++ (flat_map (big_bytes 4) cs ++ x)
more_bytes c cs x = ap (λ (s : List ℕ). s ++ x) (flat_map-cons (big_bytes 4) c cs) ∙ append_assoc (big_bytes 4 c) (flat_map (big_bytes 4) cs) x

-- the bytes of characters give them back
pub characters_again : (chars rest : List ℕ) → AllByRecursion IsScalar chars → characters_at (length chars) (flat_map (big_bytes 4) chars ++ rest) ≡ chars
characters_again [] rest all = refl
characters_again (c ∷ cs) rest all =
    let bytes = flat_map (big_bytes 4) cs ++ rest in
    let first : big_number 4 (flat_map (big_bytes 4) (c ∷ cs) ++ rest) ≡ c = ap (big_number 4) (more_bytes c cs rest) ∙ big_number-reads_back 4 c bytes (scalar_fits c all.0) in
    let others : drop 4 (flat_map (big_bytes 4) (c ∷ cs) ++ rest) ≡ bytes = ap (drop 4) (more_bytes c cs rest) in
    let last : characters_at (length cs) (drop 4 (flat_map (big_bytes 4) (c ∷ cs) ++ rest)) ≡ cs = ap (λ (s : List ℕ). characters_at (length cs) s) others ∙ characters_again cs rest all.1 in
    λ i. first i ∷ last i

pub length-bytes : (chars : List ℕ) → length (flat_map (big_bytes 4) chars) ≡ 4 * length chars
length-bytes [] = refl
length-bytes (c ∷ cs) = ap (λ (s : List ℕ). length s) (flat_map-cons (big_bytes 4) c cs) ∙ omega (arith, length-append (big_bytes 4 c) (flat_map (big_bytes 4) cs), length-bytes cs)

pub characters_unique : (cs ds x y : List ℕ) → AllByRecursion IsScalar cs → AllByRecursion IsScalar ds → length cs ≡ length ds
    → flat_map (big_bytes 4) cs ++ x ≡ flat_map (big_bytes 4) ds ++ y → (cs ≡ ds) × (x ≡ y)
characters_unique [] [] x y p q same e = (refl, e)
characters_unique [] (d ∷ ds) x y p q same e = absurd (omega (arith, same))
characters_unique (c ∷ cs) [] x y p q same e = absurd (omega (arith, same))
characters_unique (c ∷ cs) (d ∷ ds) x y p q same e =
    let whole = sym (more_bytes c cs x) ∙ e ∙ more_bytes d ds y in
    let first : c ≡ d = sym (big_number-reads_back 4 c (flat_map (big_bytes 4) cs ++ x) (scalar_fits c p.0)) ∙ ap (big_number 4) whole ∙ big_number-reads_back 4 d (flat_map (big_bytes 4) ds ++ y) (scalar_fits d q.0) in
    let others = characters_unique cs ds x y p.1 q.1 (omega (arith, same)) (ap (drop 4) whole) in
    ((λ i. first i ∷ others.0 i), others.1)

pub scalars_tested : (chars : List ℕ) → AllByRecursion IsScalar chars → list_all scalar chars ≡ true
scalars_tested [] all = refl
scalars_tested (c ∷ cs) all = rw (all.0) (scalars_tested cs all.1)

pub scalars_there : (chars : List ℕ) → list_all scalar chars ≡ true → AllByRecursion IsScalar chars
scalars_there [] all = tt
scalars_there (c ∷ cs) all = let both = and_parts (scalar c) (list_all scalar cs) all in (both.0, scalars_there cs both.1)

pub characters_of : (chars : List ℕ) → AllByRecursion IsScalar chars → characters_in (flat_map (big_bytes 4) chars) ≡ chars
characters_of chars all =
    let count : length (flat_map (big_bytes 4) chars) / 4 ≡ length chars = omega (arith, length-bytes chars) in
    (λ i. characters_at (count i) (sym (append-nil (flat_map (big_bytes 4) chars)) i)) ∙ characters_again chars [] all
