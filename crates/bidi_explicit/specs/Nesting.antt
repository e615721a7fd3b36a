-- Nesting: a paragraph's classes as a list of nodes, characters and isolates with their content (UAX #9, BD8 and BD9).
use Rattle.std.specs.Prelude.{ℕ, suc, ◌+◌, Bool, true, false, List, [], ◌∷◌, ◌++◌, length, drop, slice_get, Option, Some, None, if◌then◌else◌}
use Rattle.bg_types.specs.declared.class.Bidi.{Bidi}
use Rattle.bg_types.specs.declared.class.Bidi.TheVariants.{L, R, Al, Lri, Rli, Fsi, Pdi}

pub data Nodes : Type 0 where
  -- no more nodes
  end : Nodes
  -- a character, and the nodes after it
  char : Bidi → Nodes → Nodes
  -- an isolate that a PDI closes: its initiator, its content, and the nodes after its PDI
  isolate : Bidi → Nodes → Nodes → Nodes
  -- an isolate that nothing closes, which holds all that is left
  unclosed : Bidi → Nodes → Nodes

-- the classes of isolate initiators
abbrev pub is_initiator : Bidi → Bool
is_initiator Lri = true
is_initiator Rli = true
is_initiator Fsi = true
is_initiator _ = false

-- the nodes before and after the first PDI among the list's own characters
abbrev pub split_at_pdi : Nodes → Option (Nodes × Nodes)
split_at_pdi end = None
split_at_pdi (char Pdi rest) = Some (end, rest)
split_at_pdi (char c rest) =
    elim (split_at_pdi rest) [ Some p ↦ Some (char c p.0, p.1) | None ↦ None ]
split_at_pdi (isolate i held rest) =
    elim (split_at_pdi rest) [ Some p ↦ Some (isolate i held p.0, p.1) | None ↦ None ]
split_at_pdi (unclosed i held) = None

-- an initiator before a list of nodes: it takes those up to the first PDI that is not matched there
abbrev pub enclose : Bidi → Nodes → Nodes
enclose i ns =
    elim (split_at_pdi ns) [ Some p ↦ isolate i p.0 p.1 | None ↦ unclosed i ns ]

-- the nodes of a paragraph
abbrev pub nest : List Bidi → Nodes
nest [] = end
nest (c ∷ cs) = if is_initiator c then enclose c (nest cs) else char c (nest cs)

-- P2 and P3: 1 if the first L, R or AL among the list's own characters is R or AL, else 0
abbrev pub base : Nodes → ℕ
base end = 0
base (char L rest) = 0
base (char R rest) = 1
base (char Al rest) = 1
base (char c rest) = base rest
base (isolate i held rest) = base rest
base (unclosed i held) = 0

-- the classes of a list of nodes, one after the other
abbrev pub flattened : Nodes → List Bidi
flattened end = []
flattened (char c rest) = c ∷ flattened rest
flattened (isolate i held rest) = i ∷ flattened held ++ Pdi ∷ flattened rest
flattened (unclosed i held) = i ∷ flattened held

-- how many characters an initiator's isolate holds, where `rest` stands after the initiator and a PDI closes the isolate
abbrev pub held_count : List Bidi → Option ℕ
held_count rest = elim (split_at_pdi (nest rest)) [ Some p ↦ Some (length (flattened p.0)) | None ↦ None ]

-- the place of the PDI that matches class c at place i, before `rest`, if c is an initiator that one matches
abbrev pub matched : ℕ → Bidi → List Bidi → Option ℕ
matched i c rest =
    if is_initiator c then elim (held_count rest) [ Some n ↦ Some (suc i + n) | None ↦ None ] else None

-- the same of place i of a list
abbrev pub matching : List Bidi → ℕ → Option ℕ
matching cs i = elim (slice_get cs i) [ Some c ↦ matched i c (drop (suc i) cs) | None ↦ None ]
