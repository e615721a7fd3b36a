-- Steps from one set to another: what is told of them is the change of the text.
use Rattle.std.proofs.Common.{◌≡◌, ◌≤◌, ◌+◌, ◌++◌, ℕ, Bool, true, false, cond, not, List, [], ◌∷◌, Some, sym, ap, subst, ◌∙◌, refl, arith}
use Rattle.std.specs.Prelude.{◌||◌, ◌&&◌, count_by, filter}
use Rattle.std.specs.Option.{option_map_or}
use Rattle.std.specs.List.{AllByRecursion}
use Rattle.std.specs.FinMap as map
use Rattle.std.proofs.lemmas.Bool.{and_parts, or_left}
use Rattle.std.proofs.lemmas.List.Sums.{sum_by-cons, sum_by-append}
use Rattle.bg_types.specs.Identifier.{Identifier, same_id}
use Rattle.bg_types.specs.OperationSet.{Node, OperationSet, AllWellFormed}
use Rattle.bg_types.specs.declared.op.OpView.TheVariants.{Insert, Erase}
use Rattle.bg_types.specs.declared.op.Place.TheVariants.{Root}
use Rattle.bg_types.specs.Edit.{IsEdit}
use Rattle.bg_types.proofs.Interface.{same_id-is, same_id-itself}
use Rattle.rga_tree.specs.Walk.{walk}
use Rattle.rga_tree.specs.Attached.{IsAttached, is_attached}
use Rattle.rga_tree.specs.Parts.{IsPartOf}
use Rattle.rga_tree.specs.TextOf.{text, visible, is_erased}
use Rattle.rga_tree.proofs.Interface.{Entry, AreDistinct, AreDistinct-walk, Rises-entries, AreWellFounded-entries, entries_of, walk-among, all_held, all_weaker_by, is_attached-test, walk-sub_walk, AllWellFormed-part, IsAttached-more, all_attached, listed-attached, is_listed, same_id-swap}
use Rattle.desk_replica.specs.Telling.{TextStep, puts, cuts, is_put, is_cut, is_shown, AreSteps, present_after, char_of, changes_of}
use Rattle.desk_replica.proofs.Shown.{read, put_at, cut_at}

-- ---- counts

pub count_cons : {X : Type 0} (p : X → Bool) (x : X) (xs : List X) → count_by p (x ∷ xs) ≡ cond (p x) 1 0 + count_by p xs
count_cons p x xs = sum_by-cons (λ y. cond (p y) 1 0) x xs

pub count_append : {X : Type 0} (p : X → Bool) (xs ys : List X) → count_by p (xs ++ ys) ≡ count_by p xs + count_by p ys
count_append p xs ys = sum_by-append (λ y. cond (p y) 1 0) xs ys

pub count_with : {X : Type 0} (p : X → Bool) (x : X) (xs : List X) → p x ≡ true → count_by p (x ∷ xs) ≡ 1 + count_by p xs
count_with p x xs is = count_cons p x xs ∙ ap (λ b. cond b 1 0 + count_by p xs) is

pub count_without : {X : Type 0} (p : X → Bool) (x : X) (xs : List X) → p x ≡ false → count_by p (x ∷ xs) ≡ count_by p xs
count_without p x xs is = let e = count_cons p x xs ∙ ap (λ b. cond b 1 0 + count_by p xs) is in omega (arith, e)

pub count_more : {X : Type 0} (p : X → Bool) (x : X) (xs : List X) → count_by p xs ≤ count_by p (x ∷ xs)
count_more p x xs = let e = count_cons p x xs in omega (arith, e)

abbrev pub put_count : Identifier → List TextStep → ℕ
put_count id steps = count_by (is_put id) steps

abbrev pub cut_count : Identifier → List TextStep → ℕ
cut_count id steps = count_by (is_cut id) steps

-- ---- what is present after them

abbrev pub present_in : (Identifier → Bool) → List TextStep → Identifier → Bool
present_in present [] = present
present_in present (step ∷ steps) = present_in (present_after present step) steps

untouched : (present : Identifier → Bool) (step : TextStep) (id : Identifier) → is_put id step ≡ false → is_cut id step ≡ false → present_after present step id ≡ present id
untouched present (puts x) id no_put no_cut = ap (λ b. b || present id) no_put
untouched present (cuts x) id no_put no_cut = ap (λ b. not b && present id) no_cut

pub present_still : (present : Identifier → Bool) (steps : List TextStep) (id : Identifier) → put_count id steps ≡ 0 → cut_count id steps ≡ 0 → present_in present steps id ≡ present id
present_still present [] id no_put no_cut = refl
present_still present (step ∷ steps) id no_put no_cut =
    let p = count_cons (is_put id) step steps in
    let c = count_cons (is_cut id) step steps in
    present_still (present_after present step) steps id (omega (arith, p, no_put)) (omega (arith, c, no_cut))
    ∙ untouched present step id (none (is_put id step) (put_count id steps) (sym p ∙ no_put)) (none (is_cut id step) (cut_count id steps) (sym c ∙ no_cut))
  where
    none : (b : Bool) (n : ℕ) → cond b 1 0 + n ≡ 0 → b ≡ false
    none true n e = absurd (omega (arith, e))
    none false n e = refl

pub present_put : (present : Identifier → Bool) (steps : List TextStep) (id : Identifier) → put_count id steps ≡ 1 → cut_count id steps ≡ 0 → present_in present steps id ≡ true
present_put present [] id one no_cut = absurd (omega (arith, one))
present_put present (puts x ∷ steps) id one no_cut = by (same_id id x) refl (present_put (present_after present (puts x)) steps id)
  where
    later : cut_count id steps ≡ 0
    later = sym (count_without (is_cut id) (puts x) steps refl) ∙ no_cut

    by : (b : Bool) → same_id id x ≡ b → (put_count id steps ≡ 1 → cut_count id steps ≡ 0 → present_in (present_after present (puts x)) steps id ≡ true)
        → present_in (present_after present (puts x)) steps id ≡ true
    by true here rest =
        let e = count_with (is_put id) (puts x) steps here in
        present_still (present_after present (puts x)) steps id (omega (arith, e, one)) later ∙ ap (λ b. b || present id) here
    by false other rest = rest (sym (count_without (is_put id) (puts x) steps other) ∙ one) later
present_put present (cuts x ∷ steps) id one no_cut =
    let c = count_more (is_cut id) (cuts x) steps in
    present_put (present_after present (cuts x)) steps id (sym (count_without (is_put id) (cuts x) steps refl) ∙ one) (omega (arith, c, no_cut))

pub present_cut : (present : Identifier → Bool) (steps : List TextStep) (id : Identifier) → put_count id steps ≡ 0 → cut_count id steps ≡ 1 → present_in present steps id ≡ false
present_cut present [] id no_put one = absurd (omega (arith, one))
present_cut present (cuts x ∷ steps) id no_put one = by (same_id id x) refl (present_cut (present_after present (cuts x)) steps id)
  where
    later : put_count id steps ≡ 0
    later = sym (count_without (is_put id) (cuts x) steps refl) ∙ no_put

    by : (b : Bool) → same_id id x ≡ b → (put_count id steps ≡ 0 → cut_count id steps ≡ 1 → present_in (present_after present (cuts x)) steps id ≡ false)
        → present_in (present_after present (cuts x)) steps id ≡ false
    by true here rest =
        let e = count_with (is_cut id) (cuts x) steps here in
        present_still (present_after present (cuts x)) steps id later (omega (arith, e, one)) ∙ ap (λ b. not b && present id) here
    by false other rest = rest later (sym (count_without (is_cut id) (cuts x) steps other) ∙ one)
present_cut present (puts x ∷ steps) id no_put one =
    let p = count_more (is_put id) (puts x) steps in
    present_cut (present_after present (puts x)) steps id (omega (arith, p, no_put)) (sym (count_without (is_cut id) (puts x) steps refl) ∙ one)

-- after the steps from S to T those are present that T shows
pub present_then : (s t : OperationSet) (steps : List TextStep) → AreSteps s t steps → (id : Identifier) → present_in (is_shown s) steps id ≡ is_shown t id
present_then s t steps h id = by (is_shown s id) (is_shown t id) refl refl
  where
    by : (a b : Bool) → is_shown s id ≡ a → is_shown t id ≡ b → present_in (is_shown s) steps id ≡ b
    by true true is then = present_still (is_shown s) steps id (h.each_put id ∙ (λ i. cond (then i && not (is i)) 1 0)) (h.each_cut id ∙ (λ i. cond (is i && not (then i)) 1 0)) ∙ is
    by true false is then = present_cut (is_shown s) steps id (h.each_put id ∙ (λ i. cond (then i && not (is i)) 1 0)) (h.each_cut id ∙ (λ i. cond (is i && not (then i)) 1 0))
    by false true is then = present_put (is_shown s) steps id (h.each_put id ∙ (λ i. cond (then i && not (is i)) 1 0)) (h.each_cut id ∙ (λ i. cond (is i && not (then i)) 1 0))
    by false false is then = present_still (is_shown s) steps id (h.each_put id ∙ (λ i. cond (then i && not (is i)) 1 0)) (h.each_cut id ∙ (λ i. cond (is i && not (then i)) 1 0)) ∙ is

-- ---- attached identifiers

module _ (s t : OperationSet) (well : AllWellFormed t) (part : IsPartOf s t) where
  pub attached_still : (id : Identifier) → is_attached s id ≡ true → is_attached t id ≡ true
  attached_still id at =
      (is_attached-test t well id).1
      (IsAttached-more s.ins t.ins (λ q n e. part (Insert q n.parent n.ch) e) ((is_attached-test s (AllWellFormed-part s t well part) id).0 at))

  pub erased_still : (id : Identifier) → is_erased s id ≡ true → is_erased t id ≡ true
  erased_still id = part (Erase id)

pub shown_attached : (s : OperationSet) (id : Identifier) → is_shown s id ≡ true → is_attached s id ≡ true
shown_attached s id h = (and_parts (is_attached s id) (not (is_erased s id)) h).0

-- ---- what is told is an edit

-- when its turn comes, what is put is not present, and what is cut is; each has one turn
pub record MayStep (t : OperationSet) (present : Identifier → Bool) (steps : List TextStep) : Type 0 where
  pub puts_new : (id : Identifier) → 1 ≤ put_count id steps → (is_attached t id ≡ true) × ((present id ≡ false) × ((put_count id steps ≡ 1) × (cut_count id steps ≡ 0)))
  pub cuts_old : (id : Identifier) → 1 ≤ cut_count id steps → (is_attached t id ≡ true) × ((present id ≡ true) × ((cut_count id steps ≡ 1) × (put_count id steps ≡ 0)))

module _ (t : OperationSet) (well : AllWellFormed t) where
  abbrev shown_by : (Identifier → Bool) → List Entry
  shown_by present = filter (λ e. present e.0) (walk t Root)

  distinct : AreDistinct (walk t Root)
  distinct = subst AreDistinct (sym (walk-among t Root well)) (AreDistinct-walk (entries_of t) Root (Rises-entries t) (AreWellFounded-entries t well))

  listed : (id : Identifier) → is_attached t id ≡ true → is_listed id (walk t Root) ≡ true
  listed id at = listed-attached t id well ((is_attached-test t well id).0 at)

  chars : (id : Identifier) → AllByRecursion (λ (e : Entry). same_id id e.0 ≡ true → e.1.ch ≡ char_of t id) (walk t Root)
  chars id = all_weaker_by (λ e. map.get t.ins e.0 ≡ Some e.1) (λ e. same_id id e.0 ≡ true → e.1.ch ≡ char_of t id) (walk t Root)
      (λ e held same. sym (ap (λ o. option_map_or (λ (n : Node). n.ch) o 0) (ap (map.get t.ins) (same_id-is id e.0 same) ∙ held))) (all_held t (map.len t.ins) Root)

  -- the rest of the steps may be taken
  step_on : (present : Identifier → Bool) (step : TextStep) (steps : List TextStep) → MayStep t present (step ∷ steps) → MayStep t (present_after present step) steps
  step_on present (puts x) steps m = record {
    puts_new = λ id some.
        let more = count_cons (is_put id) (puts x) steps in
        let none = count_without (is_cut id) (puts x) steps refl in
        let w = m.puts_new id (omega (arith, more, some)) in
        by_put id (same_id id x) refl some w;
    cuts_old = λ id some.
        let none = count_without (is_cut id) (puts x) steps refl in
        let w = m.cuts_old id (omega (arith, none, some)) in
        let p = count_cons (is_put id) (puts x) steps in
        let gone = w.1.1.1 in
        let one = w.1.1.0 in
        (w.0, (or_present id w.1.0, (omega (arith, none, one), omega (arith, p, gone))));
  }
    where
      or_present : (id : Identifier) → present id ≡ true → present_after present (puts x) id ≡ true
      or_present id is = by (same_id id x) where
        by : (b : Bool) → (b || present id) ≡ true
        by true = refl
        by false = is

      by_put : (id : Identifier) (b : Bool) → same_id id x ≡ b → 1 ≤ put_count id steps
          → (is_attached t id ≡ true) × ((present id ≡ false) × ((put_count id (puts x ∷ steps) ≡ 1) × (cut_count id (puts x ∷ steps) ≡ 0)))
          → (is_attached t id ≡ true) × ((present_after present (puts x) id ≡ false) × ((put_count id steps ≡ 1) × (cut_count id steps ≡ 0)))
      by_put id true same some w = let e = count_with (is_put id) (puts x) steps same in let one = w.1.1.0 in absurd (omega (arith, e, one, some))
      by_put id false same some w =
          (w.0, (ap (λ b. b || present id) same ∙ w.1.0, (sym (count_without (is_put id) (puts x) steps same) ∙ w.1.1.0, sym (count_without (is_cut id) (puts x) steps refl) ∙ w.1.1.1)))
  step_on present (cuts x) steps m = record {
    puts_new = λ id some.
        let none = count_without (is_put id) (cuts x) steps refl in
        let w = m.puts_new id (omega (arith, none, some)) in
        let c = count_cons (is_cut id) (cuts x) steps in
        let gone = w.1.1.1 in
        let one = w.1.1.0 in
        (w.0, (and_absent id w.1.0, (omega (arith, none, one), omega (arith, c, gone))));
    cuts_old = λ id some.
        let more = count_cons (is_cut id) (cuts x) steps in
        let w = m.cuts_old id (omega (arith, more, some)) in
        by_cut id (same_id id x) refl some w;
  }
    where
      and_absent : (id : Identifier) → present id ≡ false → present_after present (cuts x) id ≡ false
      and_absent id is = by (not (same_id id x)) where
        by : (b : Bool) → (b && present id) ≡ false
        by true = is
        by false = refl

      by_cut : (id : Identifier) (b : Bool) → same_id id x ≡ b → 1 ≤ cut_count id steps
          → (is_attached t id ≡ true) × ((present id ≡ true) × ((cut_count id (cuts x ∷ steps) ≡ 1) × (put_count id (cuts x ∷ steps) ≡ 0)))
          → (is_attached t id ≡ true) × ((present_after present (cuts x) id ≡ true) × ((cut_count id steps ≡ 1) × (put_count id steps ≡ 0)))
      by_cut id true same some w = let e = count_with (is_cut id) (cuts x) steps same in let one = w.1.1.0 in absurd (omega (arith, e, one, some))
      by_cut id false same some w =
          (w.0, (ap (λ b. not b && present id) same ∙ w.1.0, (sym (count_without (is_cut id) (cuts x) steps same) ∙ w.1.1.0, sym (count_without (is_put id) (cuts x) steps refl) ∙ w.1.1.1)))

  pub edit_of : (steps : List TextStep) (present : Identifier → Bool) → MayStep t present steps → IsEdit (read (shown_by present)) (changes_of t present steps) (read (shown_by (present_in present steps)))
  edit_of [] present m = refl
  edit_of (puts x ∷ steps) present m =
      let once = count_with (is_put x) (puts x) steps (same_id-itself x) in
      let w = m.puts_new x (omega (arith, once)) in
      let at = put_at (λ e. present e.0) (λ e. present_after present (puts x) e.0) x (λ e other. ap (λ b. b || present e.0) (same_id-swap e.0 x ∙ other))
      (char_of t x) (walk t Root) distinct (listed x w.0) (chars x)
      (λ e same. (subst (λ q. present q ≡ false) (same_id-is x e.0 same) w.1.0, or_left (same_id e.0 x) (present e.0) (same_id-swap e.0 x ∙ same))) in (
        at.0,
        subst (λ l. IsEdit l (changes_of t (present_after present (puts x)) steps) (read (shown_by (present_in (present_after present (puts x)) steps)))) at.1
            (edit_of steps (present_after present (puts x)) (step_on present (puts x) steps m)),
      )
  edit_of (cuts x ∷ steps) present m =
      let once = count_with (is_cut x) (cuts x) steps (same_id-itself x) in
      let w = m.cuts_old x (omega (arith, once)) in
      let at = cut_at (λ e. present e.0) (λ e. present_after present (cuts x) e.0) x (λ e other. ap (λ b. not b && present e.0) (same_id-swap e.0 x ∙ other))
      (walk t Root) distinct (listed x w.0)
      (λ e same. (subst (λ q. present q ≡ true) (same_id-is x e.0 same) w.1.0, ap (λ b. not b && present e.0) (same_id-swap e.0 x ∙ same))) in (
        at.0,
        subst (λ l. IsEdit l (changes_of t (present_after present (cuts x)) steps) (read (shown_by (present_in (present_after present (cuts x)) steps)))) at.1
            (edit_of steps (present_after present (cuts x)) (step_on present (cuts x) steps m)),
      )

-- ---- from the text of S to that of T

may_step : (s t : OperationSet) (steps : List TextStep) → AreSteps s t steps → MayStep t (is_shown s) steps
may_step s t steps h = record {
  puts_new = λ id some. put id some (is_shown s id) (is_shown t id) refl refl;
  cuts_old = λ id some. cut id some (is_shown s id) (is_shown t id) refl refl;
}
  where
    counts : (id : Identifier) (a b : Bool) → is_shown s id ≡ a → is_shown t id ≡ b → (put_count id steps ≡ cond (b && not a) 1 0) × (cut_count id steps ≡ cond (a && not b) 1 0)
    counts id a b is then = (h.each_put id ∙ (λ i. cond (then i && not (is i)) 1 0), h.each_cut id ∙ (λ i. cond (is i && not (then i)) 1 0))

    put : (id : Identifier) → 1 ≤ put_count id steps → (a b : Bool) → is_shown s id ≡ a → is_shown t id ≡ b
        → (is_attached t id ≡ true) × ((is_shown s id ≡ false) × ((put_count id steps ≡ 1) × (cut_count id steps ≡ 0)))
    put id some true b is then = let c = (counts id true b is then).0 ∙ ap (λ x. cond x 1 0) (and_false b) in absurd (omega (arith, c, some))
      where
        and_false : (b : Bool) → (b && false) ≡ false
        and_false true = refl
        and_false false = refl
    put id some false true is then = let c = counts id false true is then in (shown_attached t id then, (is, (c.0, c.1)))
    put id some false false is then = let c = (counts id false false is then).0 in absurd (omega (arith, c, some))

    cut : (id : Identifier) → 1 ≤ cut_count id steps → (a b : Bool) → is_shown s id ≡ a → is_shown t id ≡ b
        → (is_attached t id ≡ true) × ((is_shown s id ≡ true) × ((cut_count id steps ≡ 1) × (put_count id steps ≡ 0)))
    cut id some true true is then = let c = (counts id true true is then).1 in absurd (omega (arith, c, some))
    cut id some true false is then = let c = counts id true false is then in (attached_still s t h.well_formed h.part id (shown_attached s id is), (is, (c.1, c.0)))
    cut id some false b is then = let c = (counts id false b is then).1 in absurd (omega (arith, c, some))

-- what the walk lists is attached
pub attached_each : (t : OperationSet) → AllWellFormed t → AllByRecursion (λ (e : Entry). is_attached t e.0 ≡ true) (walk t Root)
attached_each t well = all_weaker_by (λ e. IsAttached t.ins e.0) (λ e. is_attached t e.0 ≡ true) (walk t Root) (λ e at. (is_attached-test t well e.0).1 at) (all_attached t (map.len t.ins) Root tt)

-- so of it those are shown that are not erased
walk_shown : (t : OperationSet) → AllWellFormed t → filter (λ e. is_shown t e.0) (walk t Root) ≡ visible t
walk_shown t well = by (walk t Root) (attached_each t well)
  where
    by : (es : List Entry) → AllByRecursion (λ (e : Entry). is_attached t e.0 ≡ true) es → filter (λ e. is_shown t e.0) es ≡ filter (λ e. not (is_erased t e.0)) es
    by [] h = refl
    by (e ∷ es) h = λ i. cond (h.0 i && not (is_erased t e.0)) (e ∷ by es h.1 i) (by es h.1 i)

shown_of_attached : (s : OperationSet) (es : List Entry) → filter (λ e. is_shown s e.0) es ≡ filter (λ e. not (is_erased s e.0)) (filter (λ e. is_attached s e.0) es)
shown_of_attached s [] = refl
shown_of_attached s (e ∷ es) = by (is_attached s e.0) (shown_of_attached s es)
  where
    by : (b : Bool) → filter (λ x. is_shown s x.0) es ≡ filter (λ x. not (is_erased s x.0)) (filter (λ x. is_attached s x.0) es)
        → cond (b && not (is_erased s e.0)) (e ∷ filter (λ x. is_shown s x.0) es) (filter (λ x. is_shown s x.0) es)
        ≡ filter (λ x. not (is_erased s x.0)) (cond b (e ∷ filter (λ x. is_attached s x.0) es) (filter (λ x. is_attached s x.0) es))
    by true rest = λ i. cond (not (is_erased s e.0)) (e ∷ rest i) (rest i)
    by false rest = rest

shown_in : (s t : OperationSet) → AllWellFormed t → IsPartOf s t → filter (λ e. is_shown s e.0) (walk t Root) ≡ visible s
shown_in s t well part = shown_of_attached s (walk t Root) ∙ ap (filter (λ (e : Entry). not (is_erased s e.0))) (sym (walk-sub_walk s t well part))

pub told_edit : (s t : OperationSet) (steps : List TextStep) → AreSteps s t steps → IsEdit (text s) (changes_of t (is_shown s) steps) (text t)
told_edit s t steps h =
    let one : read (filter (λ (e : Entry). is_shown s e.0) (walk t Root)) ≡ text s = ap read (shown_in s t h.well_formed h.part) in
    let then : read (filter (λ (e : Entry). present_in (is_shown s) steps e.0) (walk t Root)) ≡ text t =
    (λ i. read (filter (λ (e : Entry). present_then s t steps h e.0 i) (walk t Root))) ∙ ap read (walk_shown t h.well_formed) in
    subst (λ a. IsEdit a (changes_of t (is_shown s) steps) (text t)) one
    (subst (IsEdit (read (filter (λ (e : Entry). is_shown s e.0) (walk t Root))) (changes_of t (is_shown s) steps)) then
    (edit_of t h.well_formed steps (is_shown s) (may_step s t steps h)))
