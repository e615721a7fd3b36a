-- A list of elements, and the operations that it stands for.
use Rattle.std.specs.Prelude.{◌+◌, ◌&&◌, drop, not, true, ℕ, Bool, List, [], ◌∷◌, map as each, filter}
use Rattle.std.specs.List.{list_any, prefix_len}
use Rattle.std.specs.Ordering.{is_lt}
use Rattle.std.specs.FinMap as map
use Rattle.std.specs.FinSet as set
use Rattle.bg_types.specs.Identifier.{Identifier, id_cmp, same_id}
use Rattle.bg_types.specs.OperationSet.{Node, OperationSet}
use Rattle.bg_types.specs.declared.op.Place.{Place}
use Rattle.bg_types.specs.declared.op.Place.TheVariants.{Root, After}
use Rattle.rga_tree.specs.declared.element.Element.{Element}

abbrev pub entry_of : Element → Identifier × Node
entry_of e = (e.id, record { parent = e.parent; ch = e.ch })

abbrev pub hidden_ids : List Element → List Identifier
hidden_ids row = each (λ e. e.id) (filter (λ e. e.hidden) row)

abbrev pub shown_ids : List Element → List Identifier
shown_ids row = each (λ e. e.id) (filter (λ e. not e.hidden) row)

-- the characters of the visible elements
abbrev pub shown_of : List Element → List ℕ
shown_of row = each (λ e. e.ch) (filter (λ e. not e.hidden) row)

-- the insertions of the elements, and the deletions of the hidden ones
abbrev pub operations_of : List Element → OperationSet
operations_of row = record { ins = map.from_entries (each entry_of row); del = set.from_list (hidden_ids row) }

-- an element has the identifier
abbrev pub has : Identifier → List Element → Bool
has q row = list_any (λ e. same_id q e.id) row

-- no identifier occurs twice
abbrev pub is_distinct : List Identifier → Bool
is_distinct [] = true
is_distinct (x ∷ xs) = not (list_any (same_id x) xs) && is_distinct xs

abbrev pub ids_of : List Element → List Identifier
ids_of row = each (λ e. e.id) row

-- after the parent
abbrev pub start_of : Place → List Element → ℕ
start_of Root row = 0
start_of (After parent) row = prefix_len (λ e. not (same_id parent e.id)) row + 1

-- and after all greater elements that follow there
abbrev pub place_of : Place → Identifier → List Element → ℕ
place_of parent id row =
    let start = start_of parent row in
    start + prefix_len (λ e. is_lt (id_cmp id e.id)) (drop start row)
