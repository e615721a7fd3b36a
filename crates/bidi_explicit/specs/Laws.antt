-- Laws over the definitions.
use Rattle.std.specs.Prelude.{ℕ, zero, suc, ◌≡◌, ◌==◌, ◌&&◌, Bool, true, false, List, [], ◌∷◌, ◌++◌, count_by, find, take, slice_get, length, Some, None}
use Rattle.bg_types.specs.declared.class.Bidi.{Bidi}
use Rattle.bg_types.specs.declared.class.Bidi.TheVariants.{Pdi}
use Rattle.bidi_explicit.specs.declared.kind.Direction.{Direction}
use Rattle.bidi_explicit.specs.declared.kind.Kind.TheVariants.{Initiator, PopIsolate}
use Rattle.bidi_explicit.specs.Nesting.{Nodes, is_initiator, held_count}
use Rattle.bidi_explicit.specs.Levels.{next_level, fits, wants_odd}
use Rattle.bidi_explicit.specs.Sequences.{below}
use Rattle.bidi_explicit.specs.Flat.{Machine, drive, top}
use Rattle.bidi_explicit.specs.Frames.{flat, Frame, state, at, is_pdi, HasNoPdi, IsClosed, IsNested, MayHold, Returns}

-- over whole nodes at the front of a list the flat rules keep the stack up to the list's own entry and both counts of isolates
abbrev pub KeepsTheFrame : Type 0
KeepsTheFrame =
    (ns : Nodes) (f : Frame) (es : List Direction) (n : ℕ) → IsNested ns → IsClosed ns → MayHold f ns →
    Returns f (drive (at f (state es n)) (flat ns))

-- an isolate of a level that does not fit, or under an overflowed isolate
abbrev pub overflows : Machine → Bool → Bool
overflows m odd =
    elim m.overflow_isolates [
      | zero ↦ elim (fits (next_level odd (top m.stack).level) m.overflow_embeddings) [ true ↦ false | false ↦ true ]
      | suc n ↦ true
    ]

-- over an overflowed isolate and its PDI, the flat rules keep the stack and all counts
abbrev pub KeepsAllOverOverflow : Type 0
KeepsAllOverOverflow =
    (m : Machine) (i : Bidi) (held : Nodes) → IsNested held → HasNoPdi held → IsClosed held →
    overflows m (wants_odd i held) ≡ true →
    drive m ((i, Initiator (wants_odd i held)) ∷ flat held ++ (Pdi, PopIsolate) ∷ []) ≡ m

abbrev pub is_pdi_at : List Bidi → ℕ → Bool
is_pdi_at cs n = elim (slice_get cs n) [ Some c ↦ is_pdi c | None ↦ false ]

-- a PDI stands at n, and as many initiators as PDIs stand before it
abbrev pub balances : List Bidi → ℕ → Bool
balances cs n = is_pdi_at cs n && count_by is_initiator (take n cs) == count_by is_pdi (take n cs)

-- BD9: the PDI that the tree gives an initiator is the first after it at which the initiators and PDIs between balance
abbrev pub MatchesWhereBalanced : Type 0
MatchesWhereBalanced = (rest : List Bidi) → held_count rest ≡ find (balances rest) (below (length rest))
