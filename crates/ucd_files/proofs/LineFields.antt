-- The fields of a text, one after the other.
use Rattle.std.proofs.Common.{◌≡◌, ◌==◌, ℕ, zero, suc, ◌+◌, ◌<◌, ◌≤◌, Bool, List, [], ◌∷◌, length, get_or, map, refl, ap, ◌∙◌, sym, arith, ⊎_elim, count_by}
use Rattle.std.specs.List.{before_first, after_first, position_or_len, slice_split}
use Rattle.std.proofs.lemmas.List.{take_all, drop_all, length-map}
use Rattle.std.proofs.lemmas.List.Splits.{slice_split_none, slice_split_first, length-slice_split}
use Rattle.std.proofs.lemmas.List.Sums.{fails_before_first}
use Rattle.std.proofs.lemmas.Bool.{cases_lt}
use Rattle.std.proofs.lemmas.Bool.Decides.{nat_tests}
use Rattle.ucd_files.specs.Line.{trimmed, blanks, fields_of, field}

abbrev is_semicolon : ℕ → Bool
is_semicolon b = b == 59

-- where a `;` stands, what follows it is split in its turn
fields_of-found : (text : List ℕ) → position_or_len is_semicolon text < length text
    → fields_of text ≡ trimmed blanks (before_first is_semicolon text) ∷ fields_of (after_first is_semicolon text)
unfolding fields_of
fields_of-found text h = ap (map (trimmed blanks)) (slice_split_first is_semicolon text 0 h)

fields_of-alone : (text : List ℕ) → length text ≤ position_or_len is_semicolon text → fields_of text ≡ trimmed blanks text ∷ []
unfolding fields_of
fields_of-alone text h = ap (map (trimmed blanks)) (slice_split_none is_semicolon text (λ k d h'. fails_before_first is_semicolon text k d (omega arith)))

fields_of-nil : fields_of [] ≡ [] ∷ []
unfolding fields_of
fields_of-nil = refl

pub field-0 : (text : List ℕ) → field 0 text ≡ trimmed blanks (before_first is_semicolon text)
field-0 text = ⊎_elim
    (λ h. ap (λ fs. get_or fs 0 []) (fields_of-found text h))
    (λ h. ap (λ fs. get_or fs 0 []) (fields_of-alone text h) ∙ ap (trimmed blanks) (sym (take_all _ text h)))
    (cases_lt (position_or_len is_semicolon text) (length text))

field-nil : (k : ℕ) → field k [] ≡ []
field-nil zero = ap (λ fs. get_or fs 0 []) fields_of-nil
field-nil (suc k) = ap (λ fs. get_or fs (suc k) []) fields_of-nil

pub field-suc : (text : List ℕ) (k : ℕ) → field (suc k) text ≡ field k (after_first is_semicolon text)
field-suc text k = ⊎_elim
    (λ h. ap (λ fs. get_or fs (suc k) []) (fields_of-found text h))
    (λ h. ap (λ fs. get_or fs (suc k) []) (fields_of-alone text h) ∙ sym (ap (field k) (drop_all (position_or_len is_semicolon text + 1) text (omega (arith, h))) ∙ field-nil k))
    (cases_lt (position_or_len is_semicolon text) (length text))

pub length-fields_of : (text : List ℕ) → length (fields_of text) ≡ count_by is_semicolon text + 1
unfolding fields_of
length-fields_of text = length-map (slice_split is_semicolon text) (trimmed blanks) ∙ length-slice_split is_semicolon text

pub one_more : (n : ℕ) → (n == 1) ≡ (n + 1 == 2)
one_more n = grind (arith, nat_tests)
