-- The sequences of a paragraph, gathered one after the other.
use Rattle.std.proofs.Common.{ℕ, zero, suc, ◌≡◌, ◌≤◌, ◌-◌, refl, ap, ap₂, sym, ◌∙◌, List, [], ◌∷◌, ◌++◌, map, filter, length, take, drop, slice_range, Option, Some, None, Bool, true, false, if◌then◌else◌, append-nil, arith}
use Rattle.std.specs.List.{All}
use Rattle.std.proofs.Math.Seq.{take-length}
use Rattle.std.proofs.lemmas.List.{map-append, length-append, drop_at, take-append-le, drop-append-le, length-drop}
use Rattle.std.proofs.lemmas.List.Concat.{flat_map-append}
use Rattle.std.proofs.lemmas.List.Elements.{All-nil, All-cons, All-head, All-tail, All-push, All-same, All-weaker, All-append, filter-append}
use Rattle.bidi_explicit.specs.declared.embedded.Extent.{Extent}
use Rattle.bidi_explicit.specs.declared.kept.Kept.{Kept}
use Rattle.bidi_explicit.specs.declared.level_run.LevelRun.{LevelRun}
use Rattle.bidi_explicit.specs.Sequences.{RunSequence, is_kept, chain, begins, sequence_from, below}
use Rattle.bidi_explicit.specs.Extents.{extent_sequence, extent_sequences, extent_of, IsPart, IsKept}
use Rattle.bidi_explicit.specs.LevelRuns.{own_places, run_places}
use Rattle.bidi_explicit.proofs.Linking.{below-more}

-- more runs after leave a stretch as it was
range-append : (runs more : List LevelRun) (a b : ℕ) → a ≤ b → b ≤ length runs → slice_range (runs ++ more) a b ≡ slice_range runs a b
range-append runs more a b le within =
    ap (take (b - a)) (drop-append-le a runs more (omega arith))
    ∙ take-append-le (b - a) (drop a runs) more (omega (arith, length-drop a runs))

stretch-append : (runs more : List LevelRun) (e : Extent) → IsPart runs e → extent_sequence (runs ++ more) e ≡ extent_sequence runs e
stretch-append runs more e h =
    ap (λ rs. let s : RunSequence = record { places = run_places rs; level = e.level; sos = e.sos; eos = e.eos } in s) (range-append runs more e.start e.end h.0 h.1)

stretches-append : (runs more : List LevelRun) (es : List Extent) → All (IsPart runs) es → extent_sequences (runs ++ more) es ≡ extent_sequences runs es
stretches-append runs more [] h = refl
stretches-append runs more (e ∷ es) h = ap₂ (λ x xs. x ∷ xs) (stretch-append runs more e (All-head (IsPart runs) e es h)) (stretches-append runs more es (All-tail (IsPart runs) e es h))

longer : (runs more : List LevelRun) (es : List Extent) → All (IsPart runs) es → All (IsPart (runs ++ more)) es
longer runs more es h = All-weaker (IsPart runs) (IsPart (runs ++ more)) (λ e first. (first.0, (let l = first.1 in let n = length-append runs more in omega arith))) es h

-- the new stretch
range-new : (runs more : List LevelRun) → slice_range (runs ++ more) (length runs) (length (runs ++ more)) ≡ more
range-new runs more =
    let n : length (runs ++ more) - length runs ≡ length more = omega (arith, length-append runs more) in
    ap₂ (λ k xs. take k xs) n (drop_at runs more (length runs) refl) ∙ take-length more

extent-new : (p : ℕ) (unmatched : ℕ → Bool) (following : ℕ → Option ℕ) (places : List (Option Kept)) (runs more : List LevelRun) (first : ℕ) (n : ℕ) → n ≡ length places →
    run_places more ≡ chain following n first →
    extent_sequence (runs ++ more) (extent_of p unmatched places (length runs) (length (runs ++ more)) first (chain following n first))
    ≡ sequence_from p following unmatched places first
extent-new p unmatched following places runs more first n e is =
    ap (λ ps. let s : RunSequence = record { places = ps; level = x.level; sos = x.sos; eos = x.eos } in s) (ap run_places (range-new runs more) ∙ is)
    ∙ ap (λ k. let y : Extent = extent_of p unmatched places (length runs) (length (runs ++ more)) first (chain following k first) in
    let s : RunSequence = record { places = chain following k first; level = y.level; sos = y.sos; eos = y.eos } in s) e
  where
    x : Extent
    x = extent_of p unmatched places (length runs) (length (runs ++ more)) first (chain following n first)

rest_kept : (following : ℕ → Option ℕ) (places : List (Option Kept)) (n : ℕ) (o : Option ℕ) → ((j : ℕ) → o ≡ Some j → All (IsKept places) (chain following n j)) →
    All (IsKept places) (elim o [ Some j ↦ chain following n j | None ↦ [] ])
rest_kept following places n (Some j) more = more j refl
rest_kept following places n None more = All-nil (IsKept places)

chain-kept : (following : ℕ → Option ℕ) (places : List (Option Kept)) → ((i j : ℕ) → following i ≡ Some j → is_kept places j ≡ true) →
    (n i : ℕ) → is_kept places i ≡ true → All (IsKept places) (chain following n i)
chain-kept following places kept zero i h = All-nil (IsKept places)
chain-kept following places kept (suc n) i h =
    All-cons (IsKept places) i _ h (rest_kept following places n (following i) (λ j e. chain-kept following places kept n j (kept i j e)))

-- the sequences that begin before place i are gathered
pub record IsGathered (p : ℕ) (following : ℕ → Option ℕ) (unmatched : ℕ → Bool) (places : List (Option Kept)) (i : ℕ) (runs : List LevelRun) (extents : List Extent) : Type 0 where
  pub made : extent_sequences runs extents ≡ map (sequence_from p following unmatched places) (filter (begins following places) (below i))
  pub stretches : All (IsPart runs) extents
  pub kept : All (IsKept places) (run_places runs)

pub IsGathered-start : (p : ℕ) (following : ℕ → Option ℕ) (unmatched : ℕ → Bool) (places : List (Option Kept)) → IsGathered p following unmatched places 0 [] []
IsGathered-start p following unmatched places = record { made = refl; stretches = All-nil (IsPart []); kept = All-nil (IsKept places) }

one-more : (following : ℕ → Option ℕ) (places : List (Option Kept)) (i : ℕ) (b : Bool) → begins following places i ≡ b →
    filter (begins following places) (i ∷ []) ≡ (if b then i ∷ [] else [])
one-more following places i true e = rw e refl
one-more following places i false e = rw e refl

filter-more : (following : ℕ → Option ℕ) (places : List (Option Kept)) (i : ℕ) (b : Bool) → begins following places i ≡ b →
    filter (begins following places) (below (suc i)) ≡ filter (begins following places) (below i) ++ (if b then i ∷ [] else [])
filter-more following places i b e =
    ap (filter (begins following places)) (below-more i) ∙ filter-append (begins following places) (below i) (i ∷ [])
    ∙ ap (λ xs. filter (begins following places) (below i) ++ xs) (one-more following places i b e)

module _ (p : ℕ) (following : ℕ → Option ℕ) (unmatched : ℕ → Bool) (places : List (Option Kept)) (i : ℕ) (runs : List LevelRun) (extents : List Extent)
    (g : IsGathered p following unmatched places i runs extents) where
  pub IsGathered-on : begins following places i ≡ false → IsGathered p following unmatched places (suc i) runs extents
  IsGathered-on e = record {
    made = g.made ∙ ap (map (sequence_from p following unmatched places)) (sym (filter-more following places i false e ∙ append-nil _));
    stretches = g.stretches;
    kept = g.kept;
  }

  pub IsGathered-more : begins following places i ≡ true → is_kept places i ≡ true → ((k j : ℕ) → following k ≡ Some j → is_kept places j ≡ true) →
      (n : ℕ) → n ≡ length places → (more : List LevelRun) → run_places more ≡ chain following n i →
      IsGathered p following unmatched places (suc i) (runs ++ more)
      (extents ++ extent_of p unmatched places (length runs) (length (runs ++ more)) i (chain following n i) ∷ [])
  IsGathered-more e here kept n same more is =
      let x : Extent = extent_of p unmatched places (length runs) (length (runs ++ more)) i (chain following n i) in
      record {
        made = map-append (extent_sequence (runs ++ more)) extents (x ∷ [])
            ∙ ap₂ (λ xs y. xs ++ y ∷ []) (stretches-append runs more extents g.stretches ∙ g.made) (extent-new p unmatched following places runs more i n same is)
            ∙ sym (ap (map (sequence_from p following unmatched places)) (filter-more following places i true e)
            ∙ map-append (sequence_from p following unmatched places) (filter (begins following places) (below i)) (i ∷ []));
        stretches = All-push (IsPart (runs ++ more)) extents x (longer runs more extents g.stretches)
            (let l = length-append runs more in (omega arith, omega arith));
        kept = All-same (IsKept places) _ _ (flat_map-append own_places runs more ∙ ap (λ ps. run_places runs ++ ps) is)
            (All-append (IsKept places) (run_places runs) (chain following n i) g.kept (chain-kept following places kept n i here));
      }
