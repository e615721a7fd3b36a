-- The order in which a set of operations is read: the definition Walk.
use Rattle.std.specs.Prelude.{ℕ, zero, suc, Bool, true, false, List, [], ◌∷◌, map as each, filter, reverse, Contains}
use Rattle.std.specs.List.{flat_map}
use Rattle.std.specs.FinMap as map
use Rattle.bg_types.specs.Identifier.{Identifier, id_cmp, same_id}
use Rattle.bg_types.specs.OperationSet.{Node, OperationSet}
use Rattle.bg_types.specs.declared.op.Place.{Place}
use Rattle.bg_types.specs.declared.op.Place.TheVariants.{Root, After}

-- what ins(S) is
abbrev pub Insertions : Type 0
Insertions = map.FinMap id_cmp Node

-- the test of equality of parents
abbrev pub same_place : Place → Place → Bool
same_place Root Root = true
same_place Root (After b) = false
same_place (After a) Root = false
same_place (After a) (After b) = same_id a b

-- the children of p, in falling order
abbrev pub children : Insertions → Place → List (Identifier × Node)
children ins p = reverse (filter (λ e. same_place e.1.parent p) (map.entries ins))

-- each child of p in falling order, and after it what stands below it, to a depth
abbrev pub walk_to : ℕ → Insertions → Place → List (Identifier × Node)
walk_to zero ins p = []
walk_to (suc depth) ins p = flat_map (λ e. e ∷ walk_to depth ins (After e.0)) (children ins p)

-- walk(S, p), to a depth of at most the number of insertions
abbrev pub walk : OperationSet → Place → List (Identifier × Node)
walk s p = walk_to (map.len s.ins) s.ins p

-- the identifiers of the walk from the root
abbrev pub walked_ids : OperationSet → List Identifier
walked_ids s = each (λ e. e.0) (walk s Root)

-- the parent is the root, or an identifier that is listed
abbrev pub IsListedParent : Place → List (Identifier × Node) → Type 0
IsListedParent Root listed = Unit {0}
IsListedParent (After parent) listed = Contains (each (λ e. e.0) listed) parent
