-- Words whose statuses are known up to a place.
use Rattle.std.specs.Prelude.{◌≡◌, ℕ, List, ◌∷◌, ◌++◌, map}
use Rattle.unicode_tables.specs.declared.word.Word.{Word}
use Rattle.line_break.specs.declared.status.Break.{Break}
use Rattle.line_break.specs.Items.{Item, point_of_word}
use Rattle.line_break.specs.Statuses.{status, statuses_behind, statuses}
use Rattle.line_break.specs.States.{IsBehind}

-- the statuses right after `front` and after each later code point
unfoldable pub statuses_from : List Item → List Item → List Break
statuses_from front later = status front later ∷ statuses_behind front later

-- `done` are the statuses before the boundary at which `rest` begins, and this state is what stands before it
pub record IsMarkedTo (words rest : List Word) (done : List Break) (state : ℕ) : Type 0 where
  pub front : List Item
  pub behind : IsBehind front state
  pub so_far : done ++ statuses_from front (map point_of_word rest) ≡ statuses (map point_of_word words)
