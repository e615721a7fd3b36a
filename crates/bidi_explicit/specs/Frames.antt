-- The state of the flat rules while they are inside one list of nodes.
use Rattle.std.specs.Prelude.{ℕ, suc, ◌≡◌, Bool, true, false, List, [], ◌∷◌, ◌++◌}
use Rattle.bg_types.specs.declared.class.Bidi.{Bidi}
use Rattle.bg_types.specs.declared.class.Bidi.TheVariants.{Pdi}
use Rattle.bidi_explicit.specs.declared.kind.Direction.{Direction}
use Rattle.bidi_explicit.specs.declared.kind.Entry.{Entry}
use Rattle.bidi_explicit.specs.declared.kind.Kind.TheVariants.{Initiator, PopIsolate}
use Rattle.bidi_explicit.specs.Nesting.{Nodes, end, char, isolate, unclosed, is_initiator}
use Rattle.bidi_explicit.specs.Levels.{kind, Open, wants_odd}
use Rattle.bidi_explicit.specs.Flat.{Machine, Token, entry}

-- the classes of nodes, with what each does
abbrev pub flat : Nodes → List Token
flat end = []
flat (char c rest) = (c, kind false c) ∷ flat rest
flat (isolate i held rest) = (i, Initiator (wants_odd i held)) ∷ flat held ++ (Pdi, PopIsolate) ∷ flat rest
flat (unclosed i held) = (i, Initiator (wants_odd i held)) ∷ flat held

-- where a list was entered: the paragraph's first entry, or a valid isolate over other entries
pub data Frame : Type 0 where
  bottom : Direction → Frame
  inside : Direction → List Entry → ℕ → Frame

abbrev pub entered : Frame → Direction
entered (bottom d) = d
entered (inside d below valid) = d

-- the stack up to a list's own entry
abbrev pub frame_stack : Frame → List Entry
frame_stack (bottom d) = entry d false ∷ []
frame_stack (inside d below valid) = entry d true ∷ below

abbrev pub frame_isolates : Frame → ℕ
frame_isolates (bottom d) = 0
frame_isolates (inside d below valid) = suc valid

-- the embeddings over a stack
abbrev pub over : List Direction → List Entry → List Entry
over [] es = es
over (d ∷ ds) es = entry d false ∷ over ds es

abbrev pub state : List Direction → ℕ → Open
state ds n = record { embeddings = ds; overflowed = n }

-- the flat rules inside a list, with the list's own open embeddings
abbrev pub at : Frame → Open → Machine
at f s = record {
  stack = over s.embeddings (frame_stack f);
  overflow_isolates = 0;
  overflow_embeddings = s.overflowed;
  valid_isolates = frame_isolates f;
}

abbrev pub is_pdi : Bidi → Bool
is_pdi Pdi = true
is_pdi _ = false

-- no PDI is among the list's own characters
abbrev pub HasNoPdi : Nodes → Type 0
HasNoPdi end = Unit {0}
HasNoPdi (char c rest) = (is_pdi c ≡ false) × HasNoPdi rest
HasNoPdi (isolate i held rest) = HasNoPdi rest
HasNoPdi (unclosed i held) = Unit {0}

-- each isolate of the list is closed
abbrev pub IsClosed : Nodes → Type 0
IsClosed end = Unit {0}
IsClosed (char c rest) = IsClosed rest
IsClosed (isolate i held rest) = IsClosed rest
IsClosed (unclosed i held) = ⊥

-- an initiator begins each isolate, and the content of a closed isolate has no PDI of its own and only closed isolates
abbrev pub IsNested : Nodes → Type 0
IsNested end = Unit {0}
IsNested (char c rest) = (is_initiator c ≡ false) × IsNested rest
IsNested (isolate i held rest) =
    (is_initiator i ≡ true) × IsNested held × HasNoPdi held × IsClosed held × IsNested rest
IsNested (unclosed i held) = (is_initiator i ≡ true) × IsNested held × HasNoPdi held

-- only the paragraph's own list may have a PDI of its own
abbrev pub MayHold : Frame → Nodes → Type 0
MayHold (bottom d) ns = Unit {0}
MayHold (inside d below valid) ns = HasNoPdi ns

-- the flat rules stand in the same list, whatever embeddings of its own are open
pub record Returns (f : Frame) (m : Machine) : Type 0 where
  pub embeddings : List Direction
  pub overflowed : ℕ
  pub is : m ≡ at f (state embeddings overflowed)
