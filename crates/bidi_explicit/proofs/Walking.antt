-- A chain of links goes along its level runs, and over them a paragraph is gone through a run at a time.
use Rattle.std.proofs.Common.{ℕ, zero, suc, ◌≡◌, ◌≤◌, ◌<◌, ◌+◌, ◌-◌, ◌==◌, inl, inr, refl, ap, subst, sym, ◌∙◌, List, [], ◌∷◌, ◌++◌, length, get_or, take, drop, Option, Some, Bool, true, false, add-zero, arith}
use Rattle.std.specs.Prelude.{max, not, ◌&&◌}
use Rattle.std.proofs.Math.Bool.{and-false}
use Rattle.std.proofs.lemmas.Bool.{cases_Bool, false≢true}
use Rattle.std.proofs.lemmas.Bool.Decides.{eqb_tells}
use Rattle.std.proofs.lemmas.List.{append_cancel_left, take-append-drop}
use Rattle.std.proofs.lemmas.List.Concat.{flat_map-append}
use Rattle.bidi_explicit.specs.declared.controls.Control.{Control}
use Rattle.bidi_explicit.specs.declared.embedded.Extent.{Extent}
use Rattle.bidi_explicit.specs.declared.kept.Kept.{Kept}
use Rattle.bidi_explicit.specs.declared.level_run.LevelRun.{LevelRun}
use Rattle.bidi_explicit.specs.Sequences.{kept_at, is_kept, same_level, is_place, chain, begins}
use Rattle.bidi_explicit.specs.Extents.{extent_of}
use Rattle.bidi_explicit.specs.Links.{linked, is_unclosed_at, AreMatched, AreKept}
use Rattle.bidi_explicit.specs.LevelRuns.{own_places, run_places, IsRun, IsEdge, AreNoted, has_start}
use Rattle.bidi_explicit.proofs.Chains.{IsForward, IsWalkedTo, IsWalkedTo-run}
use Rattle.bidi_explicit.proofs.Linking.{linked-forward, linked-from_kept, linked-kept, linked-run, begins-kept}
use Rattle.bidi_explicit.proofs.Runs.{run_of, run_places-more, has-start, same_level-out}
use Rattle.bidi_explicit.proofs.Taken.{IsTaken, IsTaken-on, IsTaken-more, follows-at}
use Rattle.bidi_explicit.proofs.Gathering.{IsGathered, IsGathered-on, IsGathered-more}

module _ (controls : List Control) (places : List (Option Kept)) (matched : AreMatched controls) (long : length controls ≡ length places) where
  pub IsWalkedTo-more : (first start last : ℕ) (old : List ℕ) (runs more : List LevelRun) → IsRun places (run_of start (last + 1)) →
      more ≡ runs ++ run_of start (last + 1) ∷ [] →
      IsWalkedTo (linked controls places) (length places) first start old (run_places runs ++ start ∷ []) →
      IsWalkedTo (linked controls places) (length places) first last old (run_places more)
  IsWalkedTo-more first start last old runs more run is w =
      let some : start < last + 1 = run.some in
      let placed : run_places more ≡ run_places runs ++ own_places (run_of start (last + 1)) =
      ap run_places is ∙ run_places-more runs (run_of start (last + 1)) in
      subst (IsWalkedTo (linked controls places) (length places) first last old) (sym placed)
      (IsWalkedTo-run (linked controls places) (length places) (linked-forward controls places matched long) first start last old (run_places runs) (omega arith) w
      (λ i from to. linked-run controls places start (last + 1) run.within run.level i from (omega arith)))

-- a place to which one leads begins nothing
led-begins-not : (f : ℕ → Option ℕ) (places : List (Option Kept)) → IsForward f (length places) → (j i : ℕ) → f j ≡ Some i → begins f places i ≡ false
led-begins-not f places forward j i leads =
    let here : is_place i (f j) ≡ true = ap (is_place i) leads ∙ same-place i in
    ap (λ b. is_kept places i && not b) (follows-at f (length places) forward j i here) ∙ and-false (is_kept places i)
  where
    same-place : (i : ℕ) → (i == i) ≡ true
    same-place i = elim (eqb_tells i i) [ inl h ↦ h.0 | inr h ↦ absurd (h.1 refl) ]

-- the runs that came behind others have the places that came
pub places-behind : (runs more : List LevelRun) (js : List ℕ) → take (length runs) more ≡ runs → run_places more ≡ run_places runs ++ js →
    run_places (drop (length runs) more) ≡ js
places-behind runs more js before is =
    let parts : more ≡ runs ++ drop (length runs) more =
    sym (take-append-drop (length runs) more) ∙ ap (λ rs. rs ++ drop (length runs) more) before in
    append_cancel_left (run_places runs) (run_places (drop (length runs) more)) js
    (sym (flat_map-append own_places runs (drop (length runs) more)) ∙ ap run_places (sym parts) ∙ is)

-- all that begins before place i is gathered
pub record IsDone (p : ℕ) (f : ℕ → Option ℕ) (unmatched : ℕ → Bool) (places : List (Option Kept)) (i : ℕ) (runs : List LevelRun) (extents : List Extent) (ends : List ℕ) : Type 0 where
  pub gathered : IsGathered p f unmatched places i runs extents
  pub taken : IsTaken f places i (run_places runs)
  pub told : AreNoted places runs ends

module _ (p : ℕ) (controls : List Control) (places : List (Option Kept)) (matched : AreMatched controls) (kept : AreKept controls places)
    (long : length controls ≡ length places) (i : ℕ) (inside : i < length places) where
  forward : IsForward (linked controls places) (length places)
  forward = linked-forward controls places matched long

  module _ (runs : List LevelRun) (extents : List Extent) (ends : List ℕ) (done : IsDone p (linked controls places) (is_unclosed_at controls) places i runs extents ends) where
    -- nothing begins at the place
    pub IsDone-past : begins (linked controls places) places i ≡ false → IsDone p (linked controls places) (is_unclosed_at controls) places (suc i) runs extents ends
    IsDone-past none = record {
      gathered = IsGathered-on p (linked controls places) (is_unclosed_at controls) places i runs extents done.gathered none;
      taken = IsTaken-on (linked controls places) places forward (linked-from_kept controls places) i (run_places runs) done.taken none;
      told = done.told;
    }

    -- a sequence does
    pub IsDone-more : begins (linked controls places) places i ≡ true → (more : List LevelRun) (e : Extent) (all : List Extent) (noted : List ℕ) →
        take (length runs) more ≡ runs → run_places more ≡ run_places runs ++ chain (linked controls places) (length places) i →
        e ≡ extent_of p (is_unclosed_at controls) places (length runs) (length more) i (chain (linked controls places) (length places) i) →
        all ≡ extents ++ e ∷ [] → AreNoted places more noted →
        IsDone p (linked controls places) (is_unclosed_at controls) places (suc i) more all noted
    IsDone-more here more e all noted before is at pushed told =
        let f = linked controls places in
        let parts : runs ++ drop (length runs) more ≡ more =
        ap (λ rs. rs ++ drop (length runs) more) (sym before) ∙ take-append-drop (length runs) more in
        record {
          gathered =
              subst (IsGathered p (linked controls places) (is_unclosed_at controls) places (suc i) more) (ap (λ x. extents ++ x ∷ []) (sym at) ∙ sym pushed)
              (subst (λ rs. IsGathered p (linked controls places) (is_unclosed_at controls) places (suc i) rs
              (extents ++ extent_of p (is_unclosed_at controls) places (length runs) (length rs) i (chain (linked controls places) (length places) i) ∷ [])) parts
              (IsGathered-more p f (is_unclosed_at controls) places i runs extents done.gathered here (begins-kept f places i here) (linked-kept controls places kept)
              (length places) refl (drop (length runs) more) (places-behind runs more _ before is)));
          taken =
              subst (IsTaken f places (suc i)) (sym is)
              (IsTaken-more f places forward (linked-from_kept controls places) i (run_places runs) done.taken (length places) refl inside);
          told = told;
        }

-- the next place at which a level run begins, once what begins at place i is gathered
pub record IsNext (p : ℕ) (controls : List Control) (places : List (Option Kept)) (runs : List LevelRun) (extents : List Extent) (ends : List ℕ) (next : ℕ) : Type 0 where
  pub done : IsDone p (linked controls places) (is_unclosed_at controls) places next runs extents ends
  pub edge : IsEdge places next
  pub within : next ≤ length places

-- over places that begin nothing
module _ (p : ℕ) (controls : List Control) (places : List (Option Kept)) (matched : AreMatched controls)
    (long : length controls ≡ length places) (runs : List LevelRun) (extents : List Extent) (ends : List ℕ) where
  IsDone-along : (m i : ℕ) → IsDone p (linked controls places) (is_unclosed_at controls) places i runs extents ends →
      ((k : ℕ) → i ≤ k → k < i + m → begins (linked controls places) places k ≡ false) →
      IsDone p (linked controls places) (is_unclosed_at controls) places (i + m) runs extents ends
  IsDone-along zero i done none =
      subst (λ k. IsDone p (linked controls places) (is_unclosed_at controls) places k runs extents ends) (sym (add-zero i)) done
  IsDone-along (suc m) i done none =
      let f = linked controls places in
      let far = IsDone-along m i done (λ k from to. none k from (omega arith)) in
      let here : begins (linked controls places) places (i + m) ≡ false = none (i + m) (omega arith) (omega arith) in
      let at : suc (i + m) ≡ i + suc m = omega arith in
      subst (λ k. IsDone p (linked controls places) (is_unclosed_at controls) places k runs extents ends) at
      (record {
        gathered = IsGathered-on p f (is_unclosed_at controls) places (i + m) runs extents far.gathered here;
        taken = IsTaken-on f places (linked-forward controls places matched long) (linked-from_kept controls places) (i + m) (run_places runs) far.taken here;
        told = far.told;
      })

  module _ (i : ℕ) (inside : i < length places) (noted : length ends ≡ length places) (edge : IsEdge places i)
      (done : IsDone p (linked controls places) (is_unclosed_at controls) places (suc i) runs extents ends) where
    -- no run begins at the place: it is not kept
    alone : get_or ends i 0 ≡ 0 → IsNext p controls places runs extents ends (suc i)
    alone none =
        let unbegun : not (has_start runs i) ≡ true = sym (done.told.begun i (omega arith)) ∙ ap (λ e. e == 0) none in
        record {
          done = done;
          edge = λ before at. let same : before ≡ i = omega arith in
              subst (λ k. same_level (kept_at places k) (kept_at places (suc i)) ≡ false) (sym same)
              (same_level-out (kept_at places i) (kept_at places (suc i)) (out unbegun));
          within = omega arith;
        }
      where
        out : not (has_start runs i) ≡ true → is_kept places i ≡ false
        out unbegun =
            elim (cases_Bool (is_kept places i)) [
              | inl is ↦ absurd (false≢true (sym (ap not (sym (has-start places runs done.told.whole i edge) ∙ done.taken.all i (omega arith) is)) ∙ unbegun))
              | inr other ↦ other
            ]

    -- one does, and is passed
    along : 0 < get_or ends i 0 → IsNext p controls places runs extents ends (get_or ends i 0)
    along some =
        let run = done.told.noted i some in
        let ahead : i < get_or ends i 0 = run.some in
        let to : suc i + (get_or ends i 0 - suc i) ≡ get_or ends i 0 = omega arith in
        record {
          done =
              subst (λ k. IsDone p (linked controls places) (is_unclosed_at controls) places k runs extents ends) to
              (IsDone-along (get_or ends i 0 - suc i) (suc i) done (λ k from below. inside_run k from (omega arith)));
          edge = run.edge;
          within = run.within;
        }
      where
        inside_run : (k : ℕ) → suc i ≤ k → k < get_or ends i 0 → begins (linked controls places) places k ≡ false
        inside_run k from below =
            let run = done.told.noted i some in
            let at : suc (k - 1) ≡ k = omega arith in
            subst (λ m. begins (linked controls places) places m ≡ false) at
            (led-begins-not (linked controls places) places (linked-forward controls places matched long) (k - 1) (suc (k - 1))
            (linked-run controls places i (get_or ends i 0) run.within run.level (k - 1) (omega arith) (omega arith)))

    pub IsNext-is : (next : ℕ) → next ≡ max (get_or ends i 0) (i + 1) → IsNext p controls places runs extents ends next
    IsNext-is next is =
        elim (eqb_tells (get_or ends i 0) 0) [
          | inl h ↦ (let none = h.1 in let at : suc i ≡ next = omega (arith, is) in subst (IsNext p controls places runs extents ends) at (alone none))
          | inr h ↦
              let ne = h.1 in
              let some : 0 < get_or ends i 0 = omega arith in
              let run = done.told.noted i some in
              let ahead : i < get_or ends i 0 = run.some in
              let at : get_or ends i 0 ≡ next = omega (arith, is) in
              subst (IsNext p controls places runs extents ends) at (along some)
        ]
