-- Insertions with a chain of parents to an identifier.
use Rattle.std.specs.Prelude.{◌≡◌, ◌↔◌, true, ℕ, List, [], ◌∷◌}
use Rattle.std.specs.FinSet as set
use Rattle.bg_types.specs.Identifier.{Identifier, id_cmp}
use Rattle.bg_types.specs.OperationSet.{OperationSet}
use Rattle.pending_ops.specs.Waiting.{follows}

-- of q, these and id, each one but id itself is an insertion of S right after the next one
abbrev pub IsChain : OperationSet → Identifier → List Identifier → Identifier → Type 0
IsChain s q [] id = follows s id q ≡ true
IsChain s q (p ∷ ps) id = (follows s p q ≡ true) × IsChain s p ps id

-- q is an insertion of S with a chain of parents through insertions of S to id
abbrev pub IsBelow : OperationSet → Identifier → Identifier → Type 0
IsBelow s id q = (ps : List Identifier) × IsChain s q ps id

-- n insertions of S have a chain of parents through insertions of S to id
abbrev pub CountsBelow : OperationSet → Identifier → ℕ → Type 0
CountsBelow s id n = (below : set.FinSet id_cmp) × (((q : Identifier) → (set.contains below q ≡ true) ↔ IsBelow s id q) × (set.len below ≡ n))
