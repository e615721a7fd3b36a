-- Marks that have a type already are not changed by setting them to it.
use Rattle.std.proofs.Common.{ℕ, zero, suc, ◌≡◌, ◌+◌, ◌-◌, ◌<◌, ◌≤◌, sym, ◌∙◌, ap, inl, inr, Bool, true, false, List, ◌++◌, length, get_or, set, take, drop, arith}
use Rattle.std.proofs.lemmas.Bool.{cases_lt, cases_eq}
use Rattle.std.proofs.lemmas.List.{set-get_or, get_or_default, get_or-take, get_or-set_same, get_or-set_other}
use Rattle.bg_types.specs.declared.class.Bidi.{Bidi}
use Rattle.bg_types.specs.declared.class.Bidi.TheVariants.{On}
use Rattle.bracket_pairs.specs.declared.n0.Run.{Run}
use Rattle.bracket_pairs.specs.N0.{is_nonspacing, marks_set, bracket_set}
use Rattle.bracket_pairs.specs.Runs.{IsRun}
use Rattle.bracket_pairs.proofs.SetBracket.{set-begins, marks-more, marks-end, marks-all}
use Rattle.bracket_pairs.proofs.PairSteps.{bracket-before, length-bracket}

-- from k to e the marks have the type, and after them stands none
marks-have : (t : Bidi) (before_w1 types : List Bidi) (e n k : ℕ) → k + n ≡ e → e ≤ length types → length before_w1 ≡ length types →
    ((i : ℕ) → k ≤ i → i < e → is_nonspacing (get_or before_w1 i On) ≡ true) → ((i : ℕ) → k ≤ i → i < e → get_or types i On ≡ t) →
    (e < length types → is_nonspacing (get_or before_w1 e On) ≡ false) →
    take k types ++ marks_set t (drop k before_w1) (drop k types) ≡ types
marks-have t before_w1 types e zero k sum le len marks same ended =
    let at : k ≡ e = omega arith in
    elim (cases_lt k (length types)) [
      | inl lt ↦ marks-end t On before_w1 types k (omega arith) lt (rw at (ended (omega arith)))
      | inr ge ↦ marks-all t before_w1 types k ge
    ]
marks-have t before_w1 types e (suc n) k sum le len marks same ended =
    let kept : set types k t ≡ types = rw (← same k (omega arith) (omega arith)) (set-get_or types k On) in
    sym (marks-more t On before_w1 types k (omega arith) (omega arith) (marks k (omega arith) (omega arith)))
    ∙ rw kept (marks-have t before_w1 types e n (k + 1) (omega arith) le len (λ i a b. marks i (omega arith) b) (λ i a b. same i (omega arith) b) ended)

-- a bracket of a run has its type, and so have the marks after it
pub run-has : (before_w1 types : List Bidi) (r : Run) (place : ℕ) → length before_w1 ≡ length types → IsRun before_w1 types r →
    r.start ≤ place → place < r.end → bracket_set r.class before_w1 types place ≡ types
run-has before_w1 types r place len is from to =
    let within = is.within in
    let kept : set types place r.class ≡ types = rw (← is.same place from to) (set-get_or types place On) in
    sym (set-begins r.class before_w1 types place (omega arith))
    ∙ rw kept (marks-have r.class before_w1 types r.end (r.end - (place + 1)) (place + 1) (omega arith) within len
    (λ i a b. is.marks i (omega arith) b) (λ i a b. is.same i (omega arith) b) is.ended)

-- what is set after a run leaves it
pub run-stays : (t : Bidi) (before_w1 types : List Bidi) (r : Run) (place : ℕ) → IsRun before_w1 types r →
    r.end ≤ place → place < length types → IsRun before_w1 (bracket_set t before_w1 types place) r
run-stays t before_w1 types r place is behind h =
    let len : length (bracket_set t before_w1 types place) ≡ length types = length-bracket t before_w1 types place h in
    let within = is.within in
    record {
      within = omega arith;
      marks = is.marks;
      same = λ k a b.
          sym (get_or-take place (bracket_set t before_w1 types place) k On (omega arith))
          ∙ ap (λ (ts : List Bidi). get_or ts k On) (bracket-before t before_w1 types place place (omega arith) h)
          ∙ get_or-take place types k On (omega arith) ∙ is.same k a b;
      ended = λ lt. is.ended (omega arith);
    }

-- one more place of the type
pub same-more : (t : Bidi) (types : List Bidi) (start k : ℕ) → k < length types → ((i : ℕ) → start ≤ i → i < k → get_or types i On ≡ t) →
    (i : ℕ) → start ≤ i → i < k + 1 → get_or (set types k t) i On ≡ t
same-more t types start k h same i from to =
    elim (cases_eq i k) [
      | inl e ↦ rw e (get_or-set_same types k t On h)
      | inr ne ↦ get_or-set_other types k i t On ne ∙ same i from (omega arith)
    ]

-- a read at another default
pub mark-read : (before_w1 : List Bidi) (k : ℕ) (d : Bidi) (b : Bool) → k < length before_w1 →
    is_nonspacing (get_or before_w1 k d) ≡ b → is_nonspacing (get_or before_w1 k On) ≡ b
mark-read before_w1 k d b h e = ap is_nonspacing (get_or_default before_w1 k On d h) ∙ e
