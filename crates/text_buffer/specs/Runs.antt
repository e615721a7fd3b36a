-- Runs of changes that are one edit.
use Rattle.std.specs.Prelude.{◌≡◌, ◌≤◌, ◌++◌, ℕ, List, [], ◌∷◌}
use Rattle.bg_types.specs.declared.change.Change.{Change}
use Rattle.text_buffer.specs.Buffers.{KeptParagraph}
use Rattle.bg_types.specs.declared.change.Change.TheVariants.{Put, Cut}
use Rattle.text_buffer.specs.Edits.{place_of, puts_at, changes_of, EndsBefore, Step, IsTouched}

-- the first of them is at no place that no text has
abbrev pub BeginsLow : List Change → Type 0
BeginsLow [] = Unit {0}
BeginsLow (change ∷ changes) = place_of change ≤ 4_000_000

-- these put characters from a place on, one behind the other, and a text got them at its end
pub record ArePut (changes : List Change) (place : ℕ) (old new : List ℕ) : Type 0 where
  pub points : List ℕ
  pub puts : changes ≡ puts_at place points
  pub text : new ≡ old ++ points

-- the first of them, if there is one, puts nothing at this place
abbrev pub PutsNotAt : (place : ℕ) → List Change → Type 0
PutsNotAt place [] = Unit {0}
PutsNotAt place (Put at ch ∷ changes) = at ≡ place → ⊥
PutsNotAt place (Cut at ∷ changes) = Unit {0}

-- nor does it cut there
abbrev pub CutsNotAt : (place : ℕ) → List Change → Type 0
CutsNotAt place [] = Unit {0}
CutsNotAt place (Put at ch ∷ changes) = Unit {0}
CutsNotAt place (Cut at ∷ changes) = at ≡ place → ⊥

-- an edit that stands for these changes, and doesn't go on in those behind them, leads from the old paragraphs to the new ones
pub record IsStepOf {K : Type 0} (old : List (KeptParagraph K)) (changes later : List Change) (new : List (KeptParagraph K)) : Type 0 where
  pub step : Step
  pub is : changes ≡ changes_of step
  pub whole : EndsBefore step.from step.points later
  pub touched : IsTouched old step.from step.to step.touched new
