-- Runs: characters that one site typed one after the other, each behind the one before.
use Rattle.std.specs.Prelude.{◌≡◌, ◌+◌, ◌<◌, ℕ, false, List, [], ◌∷◌}
use Rattle.std.specs.FinMap as map
use Rattle.bg_types.specs.Identifier.{Identifier}
use Rattle.bg_types.specs.OperationSet.{OperationSet, with_operation}
use Rattle.bg_types.specs.declared.op.Place.{Place}
use Rattle.bg_types.specs.declared.op.Place.TheVariants.{After}
use Rattle.bg_types.specs.declared.op.OpView.{OpView}
use Rattle.bg_types.specs.declared.op.OpView.TheVariants.{Insert}

-- the identifier that the site draws k counters later
abbrev pub later : Identifier → ℕ → Identifier
later id k = record id { counter = id.counter + k }

-- the insertions of a run: the first one after a parent, each further one after the one before
abbrev pub insertions : Identifier → Place → List ℕ → List OpView
insertions id parent [] = []
insertions id parent (ch ∷ chs) = Insert id parent ch ∷ insertions (later id 1) (After id) chs

-- S with each of the operations
abbrev pub with_operations : OperationSet → List OpView → OperationSet
with_operations s [] = s
with_operations s (op ∷ ops) = with_operations (with_operation s op) ops

-- none of n identifiers of a run is placed
abbrev pub AreNew : OperationSet → Identifier → ℕ → Type 0
AreNew s id n = (k : ℕ) → k < n → map.contains_key s.ins (later id k) ≡ false
