-- ExplicitLevels: the descent of a list of nodes (UAX #9, X1 to X9).
use Rattle.std.specs.Prelude.{ℕ, zero, suc, ◌+◌, ◌*◌, ◌/◌, ◌==◌, nat_le, Bool, true, false, List, [], ◌∷◌, ◌++◌, map, Option, Some, None, if◌then◌else◌}
use Rattle.bg_types.specs.declared.class.Bidi.{Bidi}
use Rattle.bg_types.specs.declared.class.Bidi.TheVariants.{L, R, Lre, Lro, Rle, Rlo, Pdf, Lri, Rli, Fsi, Pdi}
use Rattle.paragraphs.specs.Classes.{is_separator, is_removed}
use Rattle.bidi_explicit.specs.declared.kind.Direction.{Direction}
use Rattle.bidi_explicit.specs.declared.kind.Kind.{Kind}
use Rattle.bidi_explicit.specs.declared.kind.Kind.TheVariants.{Embedding, Initiator, PopIsolate, PopEmbedding, Other}
use Rattle.bidi_explicit.specs.declared.kept.Kept.{Kept}
use Rattle.bidi_explicit.specs.Nesting.{Nodes, end, char, isolate, unclosed, base, nest, flattened}

-- what a class does to the levels; `odd` says whether FSI acts as RLI
abbrev pub kind : Bool → Bidi → Kind
kind odd Rle = Embedding true None
kind odd Lre = Embedding false None
kind odd Rlo = Embedding true (Some R)
kind odd Lro = Embedding false (Some L)
kind odd Rli = Initiator true
kind odd Lri = Initiator false
kind odd Fsi = Initiator odd
kind odd Pdi = PopIsolate
kind odd Pdf = PopEmbedding
kind odd c = Other

-- the least odd or even level above `level`
abbrev pub next_level : Bool → ℕ → ℕ
next_level true level = 2 * ((level + 1) / 2) + 1
next_level false level = 2 * (level / 2) + 2

-- a class under an override, if there is one
abbrev pub overridden : Option Bidi → Bidi → Bidi
overridden None c = c
overridden (Some d) c = d

-- a place of class c that takes a direction
abbrev pub kept_under : Direction → Bidi → Option Kept
kept_under d c = Some (record { level = d.level; class = overridden d.forced c })

-- a place of class c under a direction, in a paragraph of level p
abbrev pub place_of : ℕ → Direction → Bidi → Option Kept
place_of p d c =
    if is_removed c then None
    else (if is_separator c then Some (record { level = p; class = c })
    else kept_under d c)

-- a list's own open embeddings, the innermost first, and how many of its embeddings overflowed
pub record Open : Type 0 where
  pub embeddings : List Direction
  pub overflowed : ℕ

abbrev pub none_open : Open
none_open = record { embeddings = []; overflowed = 0 }

-- a direction without an override
abbrev pub plain : ℕ → Direction
plain level = record { level = level; forced = None }

-- the direction that holds in a list entered at d
abbrev pub current : Direction → List Direction → Direction
current d [] = d
current d (e ∷ es) = e

-- a new level may be entered in a list with this number of overflowed embeddings
abbrev pub fits : ℕ → ℕ → Bool
fits level zero = nat_le level 125
fits level (suc overflowed) = false

-- X2 to X5: an embedding opens, or it overflows
abbrev pub opened : Bool → Option Bidi → Direction → Open → Open
opened odd forced d s =
    let level = next_level odd (current d s.embeddings).level in
    if fits level s.overflowed
    then record s { embeddings = (record { level = level; forced = forced }) ∷ s.embeddings }
    else record s { overflowed = suc s.overflowed }

abbrev pub without_first : List Direction → List Direction
without_first [] = []
without_first (d ∷ ds) = ds

-- X7: a PDF lowers the count, or closes the list's last open embedding
abbrev pub closed : Open → Open
closed s =
    elim s.overflowed [
      | zero ↦ record s { embeddings = without_first s.embeddings }
      | suc n ↦ record s { overflowed = n }
    ]

-- what a character of the list does to its open embeddings
abbrev pub own_step : Kind → Direction → Open → Open
own_step (Embedding odd forced) d s = opened odd forced d s
own_step PopEmbedding d s = closed s
own_step _ d s = s

-- X5a to X5c: an isolate wants an odd level; FSI asks for its content
abbrev pub wants_odd : Bidi → Nodes → Bool
wants_odd Rli held = true
wants_odd Fsi held = base held == 1
wants_odd _ held = false

-- the descent of a list of nodes that was entered at d, in a paragraph of level p
abbrev pub descend : ℕ → Direction → Open → Nodes → List (Option Kept)
descend p d s end = []
descend p d s (char c rest) =
    place_of p (current d s.embeddings) c ∷ descend p d (own_step (kind false c) d s) rest
descend p d s (isolate i held rest) =
    let here = current d s.embeddings in
    let level = next_level (wants_odd i held) here.level in
    place_of p here i
    ∷ (elim (fits level s.overflowed) [
      | true ↦ descend p (plain level) none_open held
      | false ↦ map (place_of p here) (flattened held)
    ])
    ++ place_of p here Pdi ∷ descend p d s rest
descend p d s (unclosed i held) =
    let here = current d s.embeddings in
    let level = next_level (wants_odd i held) here.level in
    place_of p here i
    ∷ elim (fits level s.overflowed) [
      | true ↦ descend p (plain level) none_open held
      | false ↦ map (place_of p here) (flattened held)
    ]

-- the explicit levels and classes of a paragraph of level p
abbrev pub explicit_places : ℕ → List Bidi → List (Option Kept)
explicit_places p cs = descend p (plain p) none_open (nest cs)
