-- Lines that follow one another.
use Rattle.std.specs.Prelude.{◌≡◌, ℕ, ◌<◌, List, [], ◌∷◌}
use Rattle.line_break.specs.declared.line.Line.{Line}

-- the first of these lines starts here, each other one where the one before it ends, and the last ends there; each has a cluster
abbrev pub Follow : ℕ → List Line → ℕ → Type 0
Follow from [] to = from ≡ to
Follow from (line ∷ later) to = (line.start ≡ from) × (from < line.end) × Follow line.end later to
