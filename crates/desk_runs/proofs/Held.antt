-- What a list of files holds, file by file.
use Rattle.std.proofs.Common.{inl, inr, ℕ, List, [], ◌∷◌, sym, subst}
use Rattle.std.specs.Prelude.{Contains}
use Rattle.std.specs.List.{AllZip}
use Rattle.std.proofs.lemmas.List.Elements.{Contains-append_left, Contains-append_right, Contains-append_cases}
use Rattle.bg_types.specs.declared.op.OpView.{OpView}
use Rattle.desk_files.specs.Reading.{IsReadAs}
use Rattle.desk_files.specs.Files.{joined}
use Rattle.desk_runs.proofs.Sets.{contains_first, contains_later, contains_cases, contains_none}

-- a file that is read as these operations is in the list
pub record IsFileIn (files : List (List ℕ)) (file : List ℕ) (ops : List OpView) : Type 0 where
  pub listed : Contains files file
  pub read : IsReadAs file ops

-- ---- one after the other

pub joined-of : (lists : List (List OpView)) (op : OpView) → Contains (joined lists) op → (ops : List OpView) × Contains lists ops × Contains ops op
joined-of [] op h = absurd (contains_none op h)
joined-of (ops ∷ lists) op h = elim (Contains-append_cases ops (joined lists) op h) [
  | inl here ↦ (ops, contains_first ops lists, here)
  | inr later ↦ let rest = joined-of lists op later in (rest.0, contains_later ops lists rest.0 rest.1, rest.2)
]

pub joined-has : (lists : List (List OpView)) (ops : List OpView) (op : OpView) → Contains lists ops → Contains ops op → Contains (joined lists) op
joined-has [] ops op h k = absurd (contains_none ops h)
joined-has (xs ∷ lists) ops op h k = elim (contains_cases xs lists ops h) [
  | inl is ↦ Contains-append_left xs (joined lists) op (subst (λ l. Contains l op) is k)
  | inr later ↦ Contains-append_right xs (joined lists) op (joined-has lists ops op later k)
]

-- ---- lists of operations beside files

pub ops_of : (files : List (List ℕ)) (lists : List (List OpView)) (file : List ℕ) → AllZip IsReadAs files lists → Contains files file → (ops : List OpView) × Contains lists ops × IsReadAs file ops
ops_of [] [] file h k = absurd (contains_none file k)
ops_of [] (xs ∷ lists) file h k = absurd h
ops_of (f ∷ files) [] file h k = absurd h
ops_of (f ∷ files) (xs ∷ lists) file h k = elim (contains_cases f files file k) [
  | inl is ↦ (xs, contains_first xs lists, subst (λ b. IsReadAs b xs) (sym is) h.0)
  | inr later ↦ let rest = ops_of files lists file h.1 later in (rest.0, contains_later xs lists rest.0 rest.1, rest.2)
]

pub file_of : (files : List (List ℕ)) (lists : List (List OpView)) (ops : List OpView) → AllZip IsReadAs files lists → Contains lists ops → (file : List ℕ) × IsFileIn files file ops
file_of [] [] ops h k = absurd (contains_none ops k)
file_of [] (xs ∷ lists) ops h k = absurd h
file_of (f ∷ files) [] ops h k = absurd h
file_of (f ∷ files) (xs ∷ lists) ops h k = elim (contains_cases xs lists ops k) [
  | inl is ↦ (f, record { listed = contains_first f files; read = subst (IsReadAs f) (sym is) h.0 })
  | inr later ↦ let rest = file_of files lists ops h.1 later in (rest.0, record { listed = contains_later f files rest.0 rest.1.listed; read = rest.1.read })
]

-- files that are each read as some operations have a list of them each
pub lists_for : (files : List (List ℕ)) → ((file : List ℕ) → Contains files file → (ops : List OpView) × IsReadAs file ops) → (lists : List (List OpView)) × AllZip IsReadAs files lists
lists_for [] h = ([], tt)
lists_for (f ∷ files) h =
    let here = h f (contains_first f files) in
    let rest = lists_for files (λ file k. h file (contains_later f files file k)) in
    (here.0 ∷ rest.0, (here.1, rest.1))
