-- A set of operations as the list of its elements, erased ones included.
use Rattle.std.specs.Prelude.{List, map as each, if◌then◌else◌}
use Rattle.bg_types.specs.Identifier.{Identifier}
use Rattle.bg_types.specs.OperationSet.{Node, OperationSet, with_operation}
use Rattle.bg_types.specs.declared.op.Place.TheVariants.{Root}
use Rattle.bg_types.specs.declared.op.OpView.TheVariants.{Insert, Erase}
use Rattle.rga_tree.specs.declared.element.Element.{Element}
use Rattle.rga_tree.specs.Walk.{walk}
use Rattle.rga_tree.specs.TextOf.{is_erased}

abbrev pub element_of : OperationSet → Identifier × Node → Element
element_of s e = record { id = e.0; parent = e.1.parent; ch = e.1.ch; hidden = is_erased s e.0 }

-- all elements, in the order of the walk
abbrev pub elements : OperationSet → List Element
elements s = each (element_of s) (walk s Root)

-- S with the insertion of an element, and with its deletion if it is hidden
abbrev pub with_element : OperationSet → Element → OperationSet
with_element s e =
    let t = with_operation s (Insert e.id e.parent e.ch) in
    if e.hidden then with_operation t (Erase e.id) else t
