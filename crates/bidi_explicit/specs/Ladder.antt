-- What holds of the flat rules' stack.
use Rattle.std.specs.Prelude.{ℕ, suc, ◌≡◌, ◌<◌, ◌≤◌, false, List, [], ◌∷◌, if◌then◌else◌}
use Rattle.bidi_explicit.specs.declared.kind.Entry.{Entry}
use Rattle.bidi_explicit.specs.Flat.{Machine}

-- the entries' levels fall strictly down to the paragraph's, which no isolate opened
abbrev pub IsLadder : List Entry → Type 0
IsLadder [] = ⊥
IsLadder (e ∷ []) = (e.direction.level ≤ 1) × (e.of_isolate ≡ false)
IsLadder (e ∷ f ∷ es) = (f.direction.level < e.direction.level) × (e.direction.level ≤ 125) × IsLadder (f ∷ es)

-- how many entries isolates opened
abbrev pub isolate_count : List Entry → ℕ
isolate_count [] = 0
isolate_count (e ∷ es) = if e.of_isolate then suc (isolate_count es) else isolate_count es

pub record IsSound (m : Machine) : Type 0 where
  pub ladder : IsLadder m.stack
  pub counted : m.valid_isolates ≡ isolate_count m.stack
