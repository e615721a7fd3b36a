-- What an edit makes of a text, and which paragraphs it makes anew.
use Rattle.std.specs.Prelude.{◌≡◌, ◌⊎◌, ◌+◌, ◌-◌, ◌<◌, ◌≤◌, ◌++◌, ℕ, List, [], ◌∷◌, None, length, take, drop, replicate, map as each}
use Rattle.std.specs.List.{concat, flat_map}
use Rattle.bg_types.specs.Edit.{IsInRange, changed}
use Rattle.bg_types.specs.declared.change.Change.{Change}
use Rattle.bg_types.specs.declared.change.Change.TheVariants.{Put, Cut}
use Rattle.text_buffer.specs.Buffers.{KeptParagraph, paragraphs_in}
use Rattle.text_buffer.specs.declared.touched.Touched.{Touched}

-- the text in which these code points stand in the place of those from `from` up to `to`
abbrev pub replaced : List ℕ → (from to : ℕ) → List ℕ → List ℕ
replaced text from to points = take from text ++ (points ++ drop to text)

-- the places from and up to which a change replaces
abbrev pub place_of : Change → ℕ
place_of (Put place ch) = place
place_of (Cut place) = place

abbrev pub end_of : Change → ℕ
end_of (Put place ch) = place
end_of (Cut place) = place + 1

-- a place stands in the last paragraph that begins at it or before
pub record IsParagraphOf (paragraphs : List (List ℕ)) (place number : ℕ) : Type 0 where
  pub there : number < length paragraphs
  pub begun : length (concat (take number paragraphs)) ≤ place
  pub last : number + 1 < length paragraphs → place < length (concat (take (number + 1) paragraphs))

-- a paragraph of which nothing is kept
abbrev pub anew : {K : Type 0} → List ℕ → KeptParagraph K
anew points = record { points = points; kept = None }

-- the first paragraphs and the last ones are as they were, and of those between, which are new, nothing is kept. What
-- went begins with the paragraph of the first place or the one before it, and ends with that of the last place
pub record IsTouched {K : Type 0} (old : List (KeptParagraph K)) (from to : ℕ) (touched : Touched) (new : List (KeptParagraph K)) : Type 0 where
  pub made : List (List ℕ)
  pub paragraphs : new ≡ take touched.first old ++ (each anew made ++ drop (touched.first + touched.old) old)
  pub count : length made ≡ touched.new
  pub some : 0 < touched.old
  pub first : IsParagraphOf (paragraphs_in old) from touched.first ⊎ IsParagraphOf (paragraphs_in old) from (touched.first + 1)
  pub last : IsParagraphOf (paragraphs_in old) to (touched.first + touched.old - 1)

-- ---- changes, one after the other

-- the text after them
abbrev pub all_changed : List ℕ → List Change → List ℕ
all_changed text [] = text
all_changed text (change ∷ changes) = all_changed (changed text change) changes

-- each place is in range when its turn comes
abbrev pub AreInRange : List ℕ → List Change → Type 0
AreInRange text [] = Unit {0}
AreInRange text (change ∷ changes) = IsInRange text change × AreInRange (changed text change) changes

-- so many characters are cut at a place, one after the other
abbrev pub cuts_at : (place count : ℕ) → List Change
cuts_at place count = replicate count (Cut place)

-- these are put from a place on, one behind the other
abbrev pub puts_at : (place : ℕ) → (points : List ℕ) → List Change
puts_at place [] = []
puts_at place (point ∷ points) = Put place point ∷ puts_at (place + 1) points

-- an edit that stands for changes: what stood from `from` up to `to` is cut, these code points are put there, and some
-- paragraphs are made anew
pub record Step : Type 0 where
  pub from : ℕ
  pub to : ℕ
  pub points : List ℕ
  pub touched : Touched

abbrev pub changes_of : Step → List Change
changes_of step = cuts_at step.from (step.to - step.from) ++ puts_at step.from step.points

-- a change goes on with an edit that puts these code points at a place: it puts one behind them, or cuts there too, if there is none
abbrev pub GoesOn : (from : ℕ) → (points : List ℕ) → Change → Type 0
GoesOn from points (Put place ch) = place ≡ from + length points
GoesOn from points (Cut place) = (points ≡ []) × (place ≡ from)

-- the first of these changes, if there is one, doesn't go on with it
abbrev pub EndsBefore : (from : ℕ) → (points : List ℕ) → List Change → Type 0
EndsBefore from points [] = Unit {0}
EndsBefore from points (change ∷ changes) = GoesOn from points change → ⊥

-- no edit goes on in the next one, nor the last one in these changes: neighbours are one edit
abbrev pub AreWhole : List Step → List Change → Type 0
AreWhole [] later = Unit {0}
AreWhole (step ∷ steps) later = EndsBefore step.from step.points (flat_map changes_of steps ++ later) × AreWhole steps later

-- the edits, one after the other, lead from the old paragraphs to the new ones
abbrev pub IsTouchedInTurn : {K : Type 0} → List (KeptParagraph K) → List Step → List (KeptParagraph K) → Type 0
IsTouchedInTurn old [] new = new ≡ old
IsTouchedInTurn {K} old (step ∷ steps) new = (next : List (KeptParagraph K)) × IsTouched old step.from step.to step.touched next × IsTouchedInTurn next steps new

-- edits that stand for these changes do, of which none goes on in the next one
pub record AreTouched {K : Type 0} (old : List (KeptParagraph K)) (changes : List Change) (new : List (KeptParagraph K)) : Type 0 where
  pub steps : List Step
  pub all : changes ≡ flat_map changes_of steps
  pub touched : IsTouchedInTurn old steps new
  pub whole : AreWhole steps []
