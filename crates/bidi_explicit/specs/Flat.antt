-- The flat rules: one stack of directions, and three counts (UAX #9, X1 to X8).
use Rattle.std.specs.Prelude.{ℕ, zero, suc, ◌==◌, Bool, true, false, List, [], ◌∷◌, Option, Some, None, if◌then◌else◌}
use Rattle.bg_types.specs.declared.class.Bidi.{Bidi}
use Rattle.bidi_explicit.specs.declared.kind.Direction.{Direction}
use Rattle.bidi_explicit.specs.declared.kind.Entry.{Entry}
use Rattle.bidi_explicit.specs.declared.kind.Kind.{Kind}
use Rattle.bidi_explicit.specs.declared.kind.Kind.TheVariants.{Embedding, Initiator, Other, PopEmbedding, PopIsolate}
use Rattle.bidi_explicit.specs.declared.kept.Kept.{Kept}
use Rattle.bidi_explicit.specs.Nesting.{Nodes, base, nest, split_at_pdi}
use Rattle.bidi_explicit.specs.Levels.{kind, next_level, place_of, fits, plain}

pub record Machine : Type 0 where
  -- the entries, the last pushed first
  pub stack : List Entry
  pub overflow_isolates : ℕ
  pub overflow_embeddings : ℕ
  pub valid_isolates : ℕ

abbrev pub top : List Entry → Direction
top [] = plain 0
top (e ∷ es) = e.direction

-- the stack without its entries down to the last isolate's, that one included
abbrev pub below_isolate : List Entry → List Entry
below_isolate [] = []
below_isolate (e ∷ es) = if e.of_isolate then es else below_isolate es

-- the stack without a last entry that an embedding pushed over another
abbrev pub below_embedding : List Entry → List Entry
below_embedding [] = []
below_embedding (e ∷ []) = e ∷ []
below_embedding (e ∷ f ∷ es) = if e.of_isolate then e ∷ f ∷ es else f ∷ es

abbrev pub entry : Direction → Bool → Entry
entry d of_isolate = record { direction = d; of_isolate = of_isolate }

abbrev pub pushed : ℕ → Option Bidi → Bool → List Entry → List Entry
pushed level forced of_isolate es = entry (record { level = level; forced = forced }) of_isolate ∷ es

abbrev pub advance : Kind → Machine → Machine
advance (Embedding odd forced) m =
    let level = next_level odd (top m.stack).level in
    elim m.overflow_isolates [
      | zero ↦
          if fits level m.overflow_embeddings
          then record m { stack = pushed level forced false m.stack }
          else record m { overflow_embeddings = suc m.overflow_embeddings }
      | suc n ↦ m
    ]
advance (Initiator odd) m =
    let level = next_level odd (top m.stack).level in
    elim m.overflow_isolates [
      | zero ↦
          if fits level m.overflow_embeddings
          then record m { stack = pushed level None true m.stack; valid_isolates = suc m.valid_isolates }
          else record m { overflow_isolates = 1 }
      | suc n ↦ record m { overflow_isolates = suc (suc n) }
    ]
advance PopIsolate m =
    elim m.overflow_isolates [
      | zero ↦
          elim m.valid_isolates [
            | zero ↦ m
            | suc v ↦ record m { stack = below_isolate m.stack; overflow_embeddings = 0; valid_isolates = v }
          ]
      | suc n ↦ record m { overflow_isolates = n }
    ]
advance PopEmbedding m =
    elim m.overflow_isolates [
      | zero ↦
          elim m.overflow_embeddings [
            | zero ↦ record m { stack = below_embedding m.stack }
            | suc n ↦ record m { overflow_embeddings = n }
          ]
      | suc n ↦ m
    ]
advance Other m = m

-- the machine whose top a character takes: a PDI takes it after its step
abbrev pub seen : Kind → Machine → Machine
seen PopIsolate m = advance PopIsolate m
seen _ m = m

-- a class, and what it does
abbrev pub Token : Type 0
Token = Bidi × Kind

-- the place of each character, in a paragraph of level p
abbrev pub run : ℕ → Machine → List Token → List (Option Kept)
run p m [] = []
run p m (t ∷ ts) = place_of p (top (seen t.1 m).stack) t.0 ∷ run p (advance t.1 m) ts

-- the machine after a list
abbrev pub drive : Machine → List Token → Machine
drive m [] = m
drive m (t ∷ ts) = drive (advance t.1 m) ts

-- the content of an isolate that is opened before a list
abbrev pub content : Nodes → Nodes
content ns = elim (split_at_pdi ns) [ Some p ↦ p.0 | None ↦ ns ]

-- the classes with what each does
abbrev pub tokens : List Bidi → List Token
tokens [] = []
tokens (c ∷ cs) = (c, kind (base (content (nest cs)) == 1) c) ∷ tokens cs

abbrev pub initial : ℕ → Machine
initial p = record {
  stack = pushed p None false [];
  overflow_isolates = 0;
  overflow_embeddings = 0;
  valid_isolates = 0;
}

-- the flat rules over a paragraph of level p
abbrev pub flat_places : ℕ → List Bidi → List (Option Kept)
flat_places p cs = run p (initial p) (tokens cs)
