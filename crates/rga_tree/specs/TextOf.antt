-- What a set of operations reads as: the definition TextOf.
use Rattle.std.specs.Prelude.{ℕ, Bool, not, List, map as each, filter, take, count_by}
use Rattle.std.specs.List.{prefix_len}
use Rattle.std.specs.FinSet as set
use Rattle.bg_types.specs.Identifier.{Identifier, same_id}
use Rattle.bg_types.specs.OperationSet.{Node, OperationSet}
use Rattle.bg_types.specs.declared.op.Place.TheVariants.{Root}
use Rattle.rga_tree.specs.Walk.{walk}

abbrev pub is_erased : OperationSet → Identifier → Bool
is_erased s id = set.contains s.del id

-- what is read, in the order of the walk
abbrev pub visible : OperationSet → List (Identifier × Node)
visible s = filter (λ e. not (is_erased s e.0)) (walk s Root)

abbrev pub visible_ids : OperationSet → List Identifier
visible_ids s = each (λ e. e.0) (visible s)

-- text(S)
abbrev pub text : OperationSet → List ℕ
text s = each (λ e. e.1.ch) (visible s)

-- how many visible identifiers stand before this one in the walk
abbrev pub visible_before : OperationSet → Identifier → ℕ
visible_before s id = count_by (λ e. not (is_erased s e.0)) (take (prefix_len (λ e. not (same_id id e.0)) (walk s Root)) (walk s Root))
