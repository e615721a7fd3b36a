-- When what came is what the test file wants.
use Rattle.std.specs.Prelude.{◌≡◌, ℕ, Bool, true, false, List, length, ◌==◌, Option, Some, None, EachIndex, slice_index, slice_index_or}
use Rattle.conformance.specs.declared.case.Wanted.{Wanted}
use Rattle.conformance.specs.declared.bidi.BidiLine.{BidiLine}

-- an `x` wants nothing of a level
abbrev pub is_level : Option ℕ → ℕ → Bool
is_level None came = true
is_level (Some wanted) came = wanted == came

-- each level that came is as wanted
abbrev pub EachIsLevel : List (Option ℕ) → List ℕ → Type 0
EachIsLevel wanted came = EachIndex came (λ k. is_level (slice_index_or wanted k None) (slice_index came k) ≡ true)

-- a level came for each that is wanted, and each is as wanted
abbrev pub AreLevels : List (Option ℕ) → List ℕ → Type 0
AreLevels wanted came = (length wanted ≡ length came) × EachIsLevel wanted came

-- the paragraph's level, where one is wanted, the levels, and the order of the places that have one
abbrev pub IsAsWanted : Wanted → BidiLine → List ℕ → Type 0
IsAsWanted wanted came places =
    (is_level wanted.level came.level ≡ true) × AreLevels wanted.levels.items came.levels.items × (places ≡ wanted.order.items)

-- whether a level is wanted; an `x` wants none
abbrev pub is_wanted : Option ℕ → Bool
is_wanted None = false
is_wanted (Some level) = true

-- whether a level is wanted at a place
abbrev pub is_wanted_at : List (Option ℕ) → ℕ → Bool
is_wanted_at wanted place = is_wanted (slice_index_or wanted place None)
