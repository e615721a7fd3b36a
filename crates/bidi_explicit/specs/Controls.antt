-- What is known of each character before the flat rules run: what it does, and which PDI matches it.
use Rattle.std.specs.Prelude.{ℕ, suc, ◌+◌, ◌==◌, Bool, true, false, List, [], ◌∷◌, length, Option, Some, None, if◌then◌else◌}
use Rattle.bg_types.specs.declared.class.Bidi.{Bidi}
use Rattle.bg_types.specs.declared.class.Bidi.TheVariants.{L, R, Al, Lri, Rli, Fsi, Pdi}
use Rattle.bidi_explicit.specs.declared.controls.Control.{Control}
use Rattle.bidi_explicit.specs.declared.controls.OpenPdi.{OpenPdi}
use Rattle.bidi_explicit.specs.declared.kind.Kind.TheVariants.{Other}
use Rattle.bidi_explicit.specs.Nesting.{Nodes, end, char, isolate, unclosed, is_initiator, base, nest, flattened, matched}
use Rattle.bidi_explicit.specs.Levels.{kind}
use Rattle.bidi_explicit.specs.Flat.{content}
use Rattle.bidi_explicit.specs.Strong.{strong_level}

-- a class at place i, before `rest`
abbrev pub control : ℕ → Bidi → List Bidi → Control
control i c rest = record { kind = kind (base (content (nest rest)) == 1) c; pdi = matched i c rest }

-- the same for each class of a list, the first at place i
abbrev pub controls_from : ℕ → List Bidi → List Control
controls_from i [] = []
controls_from i (c ∷ cs) = control i c cs ∷ controls_from (suc i) cs

-- that of a character that does nothing
abbrev pub no_control : Control
no_control = record { kind = Other; pdi = None }

-- what is known of the characters after a place
pub record Behind : Type 0 where
  -- what stands there up to the first PDI that is not matched there is right to left
  pub odd : Bool
  -- the PDIs that are not matched there, the nearest first
  pub pdis : List OpenPdi

abbrev pub own_pdis : ℕ → Nodes → List OpenPdi
own_pdis i end = []
own_pdis i (char Pdi rest) = (record { place = i; odd = base (content rest) == 1 }) ∷ own_pdis (suc i) rest
own_pdis i (char c rest) = own_pdis (suc i) rest
own_pdis i (isolate c held rest) = own_pdis (suc (suc i + length (flattened held))) rest
own_pdis i (unclosed c held) = []

-- what is known after a place, where these nodes stand from place i on
abbrev pub behind : ℕ → Nodes → Behind
behind i ns = record { odd = base (content ns) == 1; pdis = own_pdis i ns }

-- an initiator takes the nearest PDI
abbrev pub without_nearest : List OpenPdi → Behind
without_nearest [] = record { odd = false; pdis = [] }
without_nearest (p ∷ ps) = record { odd = p.odd; pdis = ps }

-- what is known before a class at place i
abbrev pub moved : ℕ → Bidi → Behind → Behind
moved i Lri b = without_nearest b.pdis
moved i Rli b = without_nearest b.pdis
moved i Fsi b = without_nearest b.pdis
moved i Pdi b = record { odd = false; pdis = (record { place = i; odd = b.odd }) ∷ b.pdis }
moved i L b = record b { odd = false }
moved i R b = record b { odd = true }
moved i Al b = record b { odd = true }
moved i c b = b

-- what stands from some classes on, none of them a control, is right to left: by the first strong one, or as behind them
abbrev pub odd_before : List Bidi → Bool → Bool
odd_before [] odd = odd
odd_before (c ∷ cs) odd = elim (strong_level c) [ Some level ↦ level == 1 | None ↦ odd_before cs odd ]

abbrev pub nearest : List OpenPdi → Option ℕ
nearest [] = None
nearest (p ∷ ps) = Some p.place

-- what a class does, and which PDI matches it, by what is known after it
abbrev pub control_by : Bidi → Behind → Control
control_by c b = record { kind = kind b.odd c; pdi = if is_initiator c then nearest b.pdis else None }
