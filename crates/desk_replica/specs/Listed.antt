-- The operations of a desk, as it lists them.
use Rattle.std.specs.Prelude.{◌++◌, List, map as each}
use Rattle.bg_types.specs.declared.op.OpView.{OpView}
use Rattle.bg_types.specs.declared.op.OpView.TheVariants.{Erase}
use Rattle.rga_tree.specs.declared.element.Element.{Element}
use Rattle.rga_tree.specs.Elements.{elements}
use Rattle.rga_tree.specs.Row.{hidden_ids}
use Rattle.desk_replica.specs.Desk.{Desk, insertion_of}

abbrev pub insertions_in : List Element → List OpView
insertions_in row = each insertion_of row

abbrev pub deletions_in : List Element → List OpView
deletions_in row = each Erase (hidden_ids row)

abbrev pub operations_in : List Element → List OpView
operations_in row = insertions_in row ++ deletions_in row

-- the operations of a desk: the attached insertions in the order of the walk, then the deletions of attached ones in that
-- order, then those that wait
abbrev pub listed : Desk → List OpView
listed d = insertions_in (elements d.set) ++ deletions_in (elements d.set) ++ d.waiting
