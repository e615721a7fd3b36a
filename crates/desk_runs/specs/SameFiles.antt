-- What lists of the same files read as.
use Rattle.std.specs.Prelude.{◌≡◌, ◌≤◌, ◌↔◌, ℕ, List, Contains}
use Rattle.bg_types.specs.OperationSet.{OperationSet, size}
use Rattle.rga_tree.specs.TextOf.{text}
use Rattle.desk_files.specs.Files.{IsSetOfFiles}

-- each file of one list is in the other, whatever their order and repeats
abbrev pub HaveSameFiles : List (List ℕ) → List (List ℕ) → Type 0
HaveSameFiles xs ys = (file : List ℕ) → Contains xs file ↔ Contains ys file

-- the files have a set of at most 1,000,000 operations with this text: so `text` writes it
pub record ReadAs (files : List (List ℕ)) (characters : List ℕ) : Type 0 where
  pub set : OperationSet
  pub of_files : IsSetOfFiles files set
  pub limited : size set ≤ 1_000_000
  pub text_is : text set ≡ characters
