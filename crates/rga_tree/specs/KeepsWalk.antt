-- Lists of elements that are the walk of their own operations.
use Rattle.std.specs.Prelude.{◌≡◌, true, List}
use Rattle.std.proofs.Props.{props}
use Rattle.bg_types.specs.OperationSet.{AllWellFormed}
use Rattle.rga_tree.specs.declared.element.Element.{Element}
use Rattle.rga_tree.specs.Tree.{IsTree, OnlyErasesPlaced}
use Rattle.rga_tree.specs.AllWellFormed.{AllWellFormed-prop}
use Rattle.rga_tree.specs.Elements.{elements}
use Rattle.rga_tree.specs.Row.{operations_of, ids_of, is_distinct}

-- the list has the elements of its operations in the order of the walk, each once, and those operations are a tree
pub record KeepsWalk (row : List Element) : Type 0 where
  pub in_order : row ≡ elements (operations_of row)
  pub distinct : is_distinct (ids_of row) ≡ true
  pub tree : IsTree (operations_of row)
  pub only_placed : OnlyErasesPlaced (operations_of row)
  pub well_formed : AllWellFormed (operations_of row)

-- it has at most one proof, so that a ghost field may say it
pub KeepsWalk-prop : (row : List Element) → IsProp (KeepsWalk row)
KeepsWalk-prop row = hlevel (props, AllWellFormed-prop)
