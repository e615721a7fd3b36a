-- What a tally counts.
use Rattle.std.specs.Prelude.{ℕ, ◌+◌, ◌==◌, bit_and, if◌then◌else◌}
use Rattle.conformance.specs.declared.tally.Tally.{Tally}
use Rattle.conformance.specs.declared.tally.Verdict.{Verdict}
use Rattle.conformance.specs.declared.tally.Verdict.TheVariants.{Agrees, Differs, Chosen}
use Rattle.conformance.specs.declared.tally.Choice.TheVariants.{Pairs, Pictographs}

-- how many cases had each verdict
abbrev pub number_of : Verdict → Tally → ℕ
number_of Agrees t = t.agree
number_of Differs t = t.differ
number_of (Chosen Pairs) t = t.pairs
number_of (Chosen Pictographs) t = t.pictographs

-- the tally with one more case of a verdict, and all others as they were
abbrev pub counted : Verdict → Tally → Tally
counted Agrees t = record t { agree = t.agree + 1 }
counted Differs t = record t { differ = t.differ + 1 }
counted (Chosen Pairs) t = record t { pairs = t.pairs + 1 }
counted (Chosen Pictographs) t = record t { pictographs = t.pictographs + 1 }

-- whether a line of classes asks for the direction of a bit: the automatic one 1, left to right 2, right to left 4
abbrev pub asks : ℕ → ℕ → ℕ
asks directions bit = if bit_and directions bit == 0 then 0 else 1

-- how many cases a line of classes is
abbrev pub asked_of : ℕ → ℕ
asked_of directions = asks directions 1 + asks directions 2 + asks directions 4

-- each case once
abbrev pub cases_of : Tally → ℕ
cases_of t = t.agree + t.differ + t.pairs + t.pictographs
