-- What one line of a listing says, with the freedoms that a reader of listings allows.
use Rattle.std.specs.Prelude.{◌==◌, ◌||◌, not, true, false, Bool, ℕ, List, [], ◌∷◌, Option, Some, None, option_map, nat_lt, bytes_eq, codes, if◌then◌else◌}
use Rattle.std.specs.List.{before_first, after_first}
use Rattle.std.proofs.Math.Utf8.{scalar}
use Rattle.bg_types.specs.Identifier.{Identifier}
use Rattle.bg_types.specs.declared.op.Place.{Place}
use Rattle.bg_types.specs.declared.op.Place.TheVariants.{Root, After}
use Rattle.bg_types.specs.declared.op.OpView.{OpView}
use Rattle.bg_types.specs.declared.op.OpView.TheVariants.{Insert, Erase}
use Rattle.op_codec.specs.Fault.{has_zero}
use Rattle.op_listing.specs.Words.{words}
use Rattle.op_listing.specs.Number.{number_in, up_to}
use Rattle.op_listing.specs.declared.line_fault.LineFault.{LineFault}
use Rattle.op_listing.specs.declared.line_fault.LineFault.TheVariants.{BadLine, ZeroField, ParentNotBefore, NotAScalar}

-- ---- what a word says

abbrev pub counter_in : List ℕ → Option ℕ
counter_in word = up_to 4_294_967_295 (number_in 10 1 10 word)

abbrev pub site_in : List ℕ → Option ℕ
site_in word = up_to 65_535 (number_in 10 1 10 word)

-- the code of a character, in either case of the letters
abbrev pub scalar_in : List ℕ → Option ℕ
scalar_in word = number_in 16 4 6 word

abbrev pub identifier_from : Option ℕ → Option ℕ → Option Identifier
identifier_from (Some counter) (Some site) = Some (record { counter = counter; site = site })
identifier_from (Some counter) None = None
identifier_from None site = None

-- `C.S`: a counter before the first point, and a site after it
abbrev pub identifier_in : List ℕ → Option Identifier
identifier_in word = identifier_from (counter_in (before_first (λ b. b == 46) word)) (site_in (after_first (λ b. b == 46) word))

abbrev pub parent_in : List ℕ → Option Place
parent_in word = if bytes_eq word (codes "root") then Some Root else option_map After (identifier_in word)

-- ---- what a line says

abbrev pub insertion_from : Option Identifier → Option Place → Option ℕ → Option OpView
insertion_from (Some id) (Some parent) (Some ch) = Some (Insert id parent ch)
insertion_from (Some id) (Some parent) None = None
insertion_from (Some id) None ch = None
insertion_from None parent ch = None

-- the insertion that the words after `i` write
abbrev pub insertion_in : List (List ℕ) → Option OpView
insertion_in [] = None
insertion_in (id ∷ []) = None
insertion_in (id ∷ parent ∷ []) = None
insertion_in (id ∷ parent ∷ ch ∷ []) = insertion_from (identifier_in id) (parent_in parent) (scalar_in ch)
insertion_in (id ∷ parent ∷ ch ∷ more ∷ others) = None

-- the deletion that the words after `e` write
abbrev pub erasure_in : List (List ℕ) → Option OpView
erasure_in [] = None
erasure_in (target ∷ []) = option_map Erase (identifier_in target)
erasure_in (target ∷ more ∷ others) = None

-- the operation that the words of a line write, well formed or not, if they have the shape of one
abbrev pub operation_in : List (List ℕ) → Option OpView
operation_in [] = None
operation_in (verb ∷ fields) =
    if bytes_eq verb (codes "i") then insertion_in fields else (if bytes_eq verb (codes "e") then erasure_in fields else None)

-- ---- what is wrong with a line

-- the fault of the first test that holds
abbrev pub first_fault : List (Bool × LineFault) → Option LineFault
first_fault [] = None
first_fault (test ∷ later) = if test.0 then Some test.1 else first_fault later

-- a counter or a site of the parent is 0
abbrev pub parent_has_zero : Place → Bool
parent_has_zero Root = false
parent_has_zero (After id) = has_zero id

-- the parent is the root, or its counter is below the insertion's
abbrev pub is_before : Place → Identifier → Bool
is_before Root id = true
is_before (After parent) id = nat_lt parent.counter id.counter

-- the first thing that keeps an operation from being well formed
abbrev pub operation_fault : OpView → Option LineFault
operation_fault (Insert id parent ch) = first_fault (
    (has_zero id || parent_has_zero parent, ZeroField)
    ∷ (not (is_before parent id), ParentNotBefore)
    ∷ (not (scalar ch), NotAScalar)
    ∷ [])
operation_fault (Erase target) = first_fault ((has_zero target, ZeroField) ∷ [])

-- the fault of what was written, or of a shape that writes no operation
abbrev pub written_fault : Option OpView → Option LineFault
written_fault None = Some BadLine
written_fault (Some op) = operation_fault op

-- the fault of a line with these words; a line without words has none
abbrev pub words_fault : List (List ℕ) → Option LineFault
words_fault [] = None
words_fault (verb ∷ fields) = written_fault (operation_in (verb ∷ fields))

abbrev pub line_fault : List ℕ → Option LineFault
line_fault line = words_fault (words line)
