-- The parts of what `explicit` answers are the definition's.
use Rattle.std.proofs.Common.{ℕ, zero, suc, ◌≡◌, ◌≤◌, ap, ap₂, ◌∙◌, List, [], ◌∷◌, filter, length, Option, Some, None, Bool, arith}
use Rattle.std.specs.List.{All}
use Rattle.std.proofs.lemmas.List.Elements.{All-head, All-tail, All-map}
use Rattle.bg_types.specs.declared.class.Bidi.{Bidi}
use Rattle.bidi_explicit.specs.declared.controls.Control.{Control}
use Rattle.bidi_explicit.specs.declared.kept.Kept.{Kept}
use Rattle.bidi_explicit.specs.Levels.{explicit_places}
use Rattle.bidi_explicit.specs.Sequences.{RunSequence, sequence_from, begins, below, chains, sequences_of, level_or, next, is_unmatched}
use Rattle.bidi_explicit.specs.Embedding.{Embedding, embedding_at, IsWithinDepth}
use Rattle.bidi_explicit.specs.Controls.{controls_from}
use Rattle.bidi_explicit.specs.Links.{linked, is_unclosed_at}
use Rattle.bidi_explicit.proofs.Facts.{explicit_places-within, linked-next, unclosed-unmatched}

abbrev pub answer : ℕ → List (Option Kept) → List RunSequence → Embedding
answer level places sequences = record { level = level; places = places; sequences = sequences }

pub embedding-is : (cs : List Bidi) (level : ℕ) (places : List (Option Kept)) (sequences : List RunSequence) (controls : List Control) →
    places ≡ explicit_places level cs → controls ≡ controls_from 0 cs →
    sequences ≡ chains level (linked controls places) (is_unclosed_at controls) places → answer level places sequences ≡ embedding_at level cs
embedding-is cs level places sequences controls p k s =
    let chained : sequences ≡ sequences_of level cs places =
    s ∙ ap (λ xs. chains level (linked xs places) (is_unclosed_at xs) places) k
    ∙ ap₂ (λ f u. chains level f u places) (linked-next cs places) (unclosed-unmatched cs) in
    ap (answer level places) chained ∙ ap (λ ps. answer level ps (sequences_of level cs ps)) p

level_or-within : (p : ℕ) (places : List (Option Kept)) (i : ℕ) → p ≤ 125 → All IsWithinDepth places → level_or p places (Some i) ≤ 125
level_or-within p [] i h all = h
level_or-within p (Some k ∷ places) zero h all = All-head IsWithinDepth (Some k) places all
level_or-within p (None ∷ places) zero h all = h
level_or-within p (o ∷ places) (suc i) h all = level_or-within p places i h (All-tail IsWithinDepth o places all)

abbrev pub IsLow : RunSequence → Type 0
IsLow s = s.level ≤ 125

pub chains-within : (p : ℕ) (f : ℕ → Option ℕ) (u : ℕ → Bool) (places : List (Option Kept)) → p ≤ 1 → All IsWithinDepth places → All IsLow (chains p f u places)
chains-within p f u places h all =
    All-map IsLow (sequence_from p f u places) (filter (begins f places) (below (length places)))
    (λ k d inside. level_or-within p places _ (omega arith) all)

pub sequences-within : (level : ℕ) (cs : List Bidi) → level ≤ 1 → All IsLow (embedding_at level cs).sequences
sequences-within level cs h =
    let places = explicit_places level cs in
    chains-within level (next cs places) (is_unmatched cs) places h (explicit_places-within level cs h)
