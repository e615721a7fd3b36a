-- Lemmas on the ladder of levels that a stack keeps.
use Rattle.std.proofs.Common.{ℕ, zero, suc, ◌≡◌, ◌+◌, ◌-◌, ◌<◌, ◌≤◌, refl, sym, List, [], ◌∷◌, ◌++◌, length, reverse, Bool, true, false, cond, ap, ◌∙◌, arith}
use Rattle.std.proofs.lemmas.List.{length-reverse, reverse-append}
use Rattle.bidi_explicit.specs.declared.kind.Entry.{Entry}
use Rattle.bidi_explicit.specs.Flat.{below_isolate}
use Rattle.bidi_explicit.specs.Ladder.{IsLadder, isolate_count}

ladder-length : (e : Entry) (es : List Entry) → IsLadder (e ∷ es) → (length (e ∷ es) ≤ e.direction.level + 1) × (e.direction.level ≤ 125)
ladder-length e [] l = (omega arith, omega arith)
ladder-length e (f ∷ es) l = let ih = ladder-length f es l.2 in (omega arith, l.1)

pub ladder-room : (items : List Entry) → IsLadder (reverse items) → length items ≤ 126
ladder-room items l = go (reverse items) l (sym (length-reverse items))
  where
    go : (es : List Entry) → IsLadder es → length items ≡ length es → length items ≤ 126
    go [] l e = absurd l
    go (e ∷ es) l h = let both = ladder-length e es l in omega arith

isolate-step : (e f : Entry) (es : List Entry) (n : ℕ) → IsLadder (e ∷ f ∷ es) → isolate_count (e ∷ f ∷ es) ≡ suc n →
    (b : Bool) → e.of_isolate ≡ b →
    (isolate_count (f ∷ es) ≡ suc n → IsLadder (below_isolate (f ∷ es)) × (isolate_count (below_isolate (f ∷ es)) ≡ n)) →
    IsLadder (below_isolate (e ∷ f ∷ es)) × (isolate_count (below_isolate (e ∷ f ∷ es)) ≡ n)
isolate-step e f es n l h true own ih = let k : suc (isolate_count (f ∷ es)) ≡ suc n = rw own at h in rw own (l.2, omega arith)
isolate-step e f es n l h false own ih = let k : isolate_count (f ∷ es) ≡ suc n = rw own at h in rw own (ih k)

pub ladder-below_isolate : (es : List Entry) (n : ℕ) → IsLadder es → isolate_count es ≡ suc n →
    IsLadder (below_isolate es) × (isolate_count (below_isolate es) ≡ n)
ladder-below_isolate [] n l h = absurd l
ladder-below_isolate (e ∷ []) n l h = let k : 0 ≡ suc n = rw l.1 at h in absurd (omega arith)
ladder-below_isolate (e ∷ f ∷ es) n l h = isolate-step e f es n l h e.of_isolate refl (λ k. ladder-below_isolate (f ∷ es) n l.2 k)

pub ladder-closed : (es : List Entry) (v : ℕ) → IsLadder es → v ≡ isolate_count es → 0 < v →
    IsLadder (below_isolate es) × (v - 1 ≡ isolate_count (below_isolate es))
ladder-closed es zero l h some = absurd (omega arith)
ladder-closed es (suc n) l h some = let p = ladder-below_isolate es n l (sym h) in (p.0, omega arith)

-- the last entry is an isolate's, or is dropped with those above the isolate's
pub below_isolate-last : (stack rest : List Entry) (last : Entry) → stack ≡ rest ++ last ∷ [] →
    below_isolate (reverse stack) ≡ cond last.of_isolate (reverse rest) (below_isolate (reverse rest))
below_isolate-last stack rest last is =
    ap (λ s. below_isolate (reverse s)) is ∙ ap below_isolate (reverse-append rest (last ∷ []))
