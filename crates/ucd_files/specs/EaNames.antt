-- The names of the values of East_Asian_Width (UAX #11).
use Rattle.std.specs.Prelude.{ℕ, List, [], ◌∷◌, codes}
use Rattle.bg_types.specs.declared.class.Ea.{Ea}
use Rattle.bg_types.specs.declared.class.Ea.TheVariants.{A, F, H, N, Na, W}

-- the short names, which stand on data lines
abbrev pub ea_names : List (List ℕ × Ea)
ea_names =
    (codes "A", A) ∷
    (codes "F", F) ∷
    (codes "H", H) ∷
    (codes "N", N) ∷
    (codes "Na", Na) ∷
    (codes "W", W) ∷ []

-- the long names, which `@missing` lines may use instead
abbrev pub ea_long_names : List (List ℕ × Ea)
ea_long_names =
    (codes "Ambiguous", A) ∷
    (codes "Fullwidth", F) ∷
    (codes "Halfwidth", H) ∷
    (codes "Neutral", N) ∷
    (codes "Narrow", Na) ∷
    (codes "Wide", W) ∷ []
