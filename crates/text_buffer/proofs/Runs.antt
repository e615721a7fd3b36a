-- Changes one after the other, and runs of them that are one edit.
use Rattle.std.proofs.Common.{◌≡◌, ℕ, zero, suc, ◌+◌, ◌-◌, ◌<◌, ◌≤◌, List, [], ◌∷◌, ◌++◌, length, take, drop, get_or, flat_map, add-zero, zero-add, refl, sym, ap, ap₂, subst, ◌∙◌, arith}
use Rattle.std.proofs.lemmas.List.{append-nil, append_assoc, length-append, length-drop, length-take-le, take_at, drop_at, take_more, take_all, take_rest, drop_more, drop-drop, take-append-drop}
use Rattle.std.proofs.lemmas.List.Concat.{flat_map-append}
use Rattle.std.proofs.Math.Seq.{drop-append-add}
use Rattle.bg_types.specs.declared.change.Change.{Change}
use Rattle.bg_types.specs.declared.change.Change.TheVariants.{Put, Cut}
use Rattle.bg_types.specs.Edit.{changed, IsInRange, IsEdit}
use Rattle.unicode_tables.specs.Tables.{TableValues}
use Rattle.text_buffer.specs.Buffers.{KeptParagraph, paragraphs_in, text_in, IsSplit}
use Rattle.text_buffer.specs.Edits.{replaced, place_of, all_changed, AreInRange, cuts_at, puts_at, changes_of, EndsBefore, Step, IsTouched, IsTouchedInTurn, AreTouched, AreWhole}
use Rattle.text_buffer.specs.Runs.{BeginsLow, ArePut, CutsNotAt, IsStepOf, PutsNotAt}

-- ---- some, and then others

pub changed-both : (xs ys : List Change) (text : List ℕ) → all_changed text (xs ++ ys) ≡ all_changed (all_changed text xs) ys
changed-both [] ys text = refl
changed-both (x ∷ xs) ys text = changed-both xs ys (changed text x)

pub range-first : (xs ys : List Change) (text : List ℕ) → AreInRange text (xs ++ ys) → AreInRange text xs
range-first [] ys text r = tt
range-first (x ∷ xs) ys text r = (r.0, range-first xs ys (changed text x) r.1)

pub range-later : (xs ys : List Change) (text : List ℕ) → AreInRange text (xs ++ ys) → AreInRange (all_changed text xs) ys
range-later [] ys text r = r
range-later (x ∷ xs) ys text r = range-later xs ys (changed text x) r.1

-- the changes lead from a text to the one after them
pub changed-all : (changes : List Change) (old new : List ℕ) → IsEdit old changes new → AreInRange old changes × (new ≡ all_changed old changes)
changed-all [] old new e = (tt, e)
changed-all (c ∷ cs) old new e = let later = changed-all cs (changed old c) new e.1 in ((e.0, later.0), later.1)

-- ---- a run

pub changed-cuts : (n p : ℕ) (text : List ℕ) → p ≤ length text → AreInRange text (cuts_at p n) → (p + n ≤ length text) × (all_changed text (cuts_at p n) ≡ take p text ++ drop (p + n) text)
changed-cuts zero p text within r = (omega (arith, within), sym (ap (λ k. take p text ++ drop k text) (add-zero p) ∙ take-append-drop p text))
changed-cuts (suc n) p text within r =
    let less : p < length text = r.0 in
    let a = take p text in
    let b = drop (suc p) text in
    let size : length a ≡ p = length-take-le p text within in
    let all = length-append a b in
    let later = changed-cuts n p (a ++ b) (omega (arith, all, size)) r.1 in
    let same : suc p + n ≡ p + suc n = omega arith in
    let back : drop (p + n) (a ++ b) ≡ drop (p + suc n) text =
    ap (λ k. drop (k + n) (a ++ b)) (sym size) ∙ drop-append-add a b n ∙ drop-drop n (suc p) text ∙ ap (λ k. drop k text) same in
    (omega (arith, later.0, all, size, length-drop (suc p) text, less), later.1 ∙ ap₂ (λ x y. x ++ y) (take_at a b p size) back)

pub changed-puts : (points : List ℕ) (p : ℕ) (text : List ℕ) → p ≤ length text → AreInRange text (puts_at p points) → all_changed text (puts_at p points) ≡ take p text ++ (points ++ drop p text)
changed-puts [] p text within r = sym (take-append-drop p text)
changed-puts (c ∷ cs) p text within r =
    let a = take p text in
    let d = drop p text in
    let size : length a ≡ p = length-take-le p text within in
    let more : length (a ++ c ∷ []) ≡ p + 1 = omega (arith, length-append a (c ∷ []), size) in
    let whole : a ++ c ∷ d ≡ (a ++ c ∷ []) ++ d = sym (append_assoc a (c ∷ []) d) in
    let later = changed-puts cs (p + 1) (a ++ c ∷ d) (omega (arith, length-append a (c ∷ d), size)) r.1 in
    later
    ∙ ap₂ (λ x y. x ++ (cs ++ y)) (ap (take (p + 1)) whole ∙ take_at (a ++ c ∷ []) d (p + 1) more) (ap (drop (p + 1)) whole ∙ drop_at (a ++ c ∷ []) d (p + 1) more)
    ∙ append_assoc a (c ∷ []) (cs ++ d)

first-place : (n p : ℕ) (points text : List ℕ) → AreInRange text (cuts_at p n ++ puts_at p points) → 0 < length (cuts_at p n ++ puts_at p points) → p ≤ length text
first-place zero p [] text r some = absurd (omega (arith, some))
first-place zero p (c ∷ cs) text r some = r.0
first-place (suc n) p points text r some = let less : p < length text = r.0 in omega (arith, less)

-- a run is an edit
pub changed-run : (from to : ℕ) (points text : List ℕ) → from ≤ to → AreInRange text (cuts_at from (to - from) ++ puts_at from points) → 0 < length (cuts_at from (to - from) ++ puts_at from points)
    → (to ≤ length text) × (all_changed text (cuts_at from (to - from) ++ puts_at from points) ≡ replaced text from to points)
changed-run from to points text order r some =
    let n = to - from in
    let cuts = cuts_at from n in
    let puts = puts_at from points in
    let low = first-place n from points text r some in
    let cut = changed-cuts n from text low (range-first cuts puts text r) in
    let same : from + n ≡ to = omega (arith, order) in
    let a = take from text in
    let b = drop to text in
    let mid = all_changed text cuts in
    let is : mid ≡ a ++ b = cut.1 ∙ ap (λ k. a ++ drop k text) same in
    let size : length a ≡ from = length-take-le from text low in
    let put = changed-puts points from mid (omega (arith, ap length is, length-append a b, size)) (range-later cuts puts text r) in (
      omega (arith, cut.0, same),
      changed-both cuts puts text ∙ put ∙ ap (λ t. take from t ++ (points ++ drop from t)) is ∙ ap₂ (λ x y. x ++ (points ++ y)) (take_at a b from size) (drop_at a b from size),
    )

-- the first changes are one where they are a run
pub run-edit : (changes : List Change) (old : List ℕ) (from to count : ℕ) (points : List ℕ) → 0 < count → count ≤ length changes → from ≤ to
    → take count changes ≡ cuts_at from (to - from) ++ puts_at from points → AreInRange old changes → (to ≤ length old) × (all_changed old (take count changes) ≡ replaced old from to points)
run-edit changes old from to count points some within order is range =
    let here = range-first (take count changes) (drop count changes) old (subst (AreInRange old) (sym (take-append-drop count changes)) range) in
    let size = ap length is in
    let made = changed-run from to points old order (subst (AreInRange old) is here) (omega (arith, some, length-take-le count changes within, size)) in
    (made.0, ap (all_changed old) is ∙ made.1)

-- ---- how a run is found

pub place-first : (changes : List Change) (d c : Change) → 0 < length changes → get_or changes 0 d ≡ c → BeginsLow changes → place_of c ≤ 4_000_000
place-first [] d c some is low = absurd (omega (arith, some))
place-first (x ∷ xs) d c some is low = subst (λ y. place_of y ≤ 4_000_000) is low

changes-first : (changes : List Change) (d c : Change) → 0 < length changes → get_or changes 0 d ≡ c → changes ≡ c ∷ drop 1 changes
changes-first [] d c some is = absurd (omega (arith, some))
changes-first (x ∷ xs) d c some is = ap (λ y. y ∷ xs) is

pub begins-low : (changes : List Change) (text : List ℕ) → AreInRange text changes → length text ≤ 4_000_000 → BeginsLow changes
begins-low [] text r few = tt
begins-low (Put p c ∷ cs) text r few = let low : p ≤ length text = r.0 in omega (arith, low, few)
begins-low (Cut p ∷ cs) text r few = let low : p < length text = r.0 in omega (arith, low, few)

pub length-puts : (points : List ℕ) (p : ℕ) → length (puts_at p points) ≡ length points
length-puts [] p = refl
length-puts (c ∷ cs) p = ap suc (length-puts cs (p + 1))

puts-more : (points : List ℕ) (p c : ℕ) → puts_at p (points ++ c ∷ []) ≡ puts_at p points ++ Put (p + length points) c ∷ []
puts-more [] p c = ap (λ k. Put k c ∷ []) (sym (add-zero p))
puts-more (x ∷ xs) p c =
    let same : p + 1 + length xs ≡ p + suc (length xs) = omega arith in
    ap (λ t. Put p x ∷ t) (puts-more xs (p + 1) c ∙ ap (λ k. puts_at (p + 1) xs ++ Put k c ∷ []) same)

pub put-more : (changes : List Change) (i p : ℕ) (old new next : List ℕ) (d : Change) (c : ℕ) → i < length changes → ArePut (take i changes) p old new → get_or changes i d ≡ Put (p + i) c → next ≡ new ++ c ∷ []
    → ArePut (take (i + 1) changes) p old next
put-more changes i p old new next d c within a is more =
    let points = a.points in
    let size : length points ≡ i = let e = ap length a.puts in omega (arith, e, length-puts points p, length-take-le i changes (omega (arith, within))) in
    record {
      points = points ++ c ∷ [];
      puts =
          take_more changes i d within ∙ ap₂ (λ t x. t ++ x ∷ []) a.puts (is ∙ ap (λ k. Put (p + k) c) (sym size))
          ∙ sym (puts-more points p c);
      text = more ∙ ap (λ t. t ++ c ∷ []) a.text ∙ append_assoc old points (c ∷ []);
    }

-- ---- steps

ends-front : (from : ℕ) (points : List ℕ) (xs ys : List Change) → EndsBefore from points (xs ++ ys) → EndsBefore from points xs
ends-front from points [] ys e = tt
ends-front from points (x ∷ xs) ys e = e

whole-front : (steps : List Step) (later : List Change) → AreWhole steps later → AreWhole steps []
whole-front [] later h = tt
whole-front (s ∷ steps) later h =
    let behind = flat_map changes_of steps in
    (subst (EndsBefore s.from s.points) (sym (append-nil behind)) (ends-front s.from s.points behind later h.0), whole-front steps later h.1)

whole-more : (steps : List Step) (s : Step) (later : List Change) → AreWhole steps (changes_of s ++ later) → EndsBefore s.from s.points later → AreWhole (steps ++ s ∷ []) later
whole-more [] s later h e = (e, tt)
whole-more (x ∷ steps) s later h e =
    let behind = flat_map changes_of steps in
    let both = ap (λ t. behind ++ t) (sym (append-nil (changes_of s))) ∙ sym (flat_map-append changes_of steps (s ∷ [])) in
    (subst (EndsBefore x.from x.points) (sym (append_assoc behind (changes_of s) later) ∙ ap (λ t. t ++ later) both) h.0, whole-more steps s later h.1 e)

module _ {K : Type 0} where
  steps-more : (steps : List Step) (old mid new : List (KeptParagraph K)) (s : Step) → IsTouchedInTurn old steps mid → IsTouched mid s.from s.to s.touched new → IsTouchedInTurn old (steps ++ s ∷ []) new
  steps-more [] old mid new s e t = (new, subst (λ o. IsTouched o s.from s.to s.touched new) e t, refl)
  steps-more (x ∷ xs) old mid new s h t = (h.0, h.1, steps-more xs h.0 mid new s h.2 t)

  module _ (old mid new : List (KeptParagraph K)) (changes run later : List Change) (a : AreTouched old changes mid) (goes : AreWhole a.steps (run ++ later)) (s : IsStepOf mid run later new) where
    pub whole-further : AreWhole (a.steps ++ s.step ∷ []) later
    whole-further = whole-more a.steps s.step later (subst (λ r. AreWhole a.steps (r ++ later)) s.is goes) s.whole

    pub touched-more : AreTouched old (changes ++ run) new
    touched-more = record {
      steps = a.steps ++ s.step ∷ [];
      all = ap₂ (λ x y. x ++ y) a.all (s.is ∙ sym (append-nil (changes_of s.step))) ∙ sym (flat_map-append changes_of a.steps (s.step ∷ []));
      touched = steps-more a.steps old mid new s.step a.touched s.touched;
      whole = whole-front (a.steps ++ s.step ∷ []) later whole-further;
    }

-- ---- changes that are under way

-- the first of them are made
pub record IsUnderWay {K : Type 0} (tables : TableValues) (old : List (KeptParagraph K)) (changes : List Change) (now : List (KeptParagraph K)) (made : ℕ) : Type 0 where
  pub within : made ≤ length changes
  pub split : IsSplit tables (paragraphs_in now)
  pub text : text_in now ≡ all_changed (text_in old) (take made changes)
  pub places : AreInRange (text_in now) (drop made changes)
  pub touched : AreTouched old (take made changes) now
  pub whole : AreWhole touched.steps (drop made changes)

take-further : (changes : List Change) (made n : ℕ) → take (made + n) changes ≡ take made changes ++ take n (drop made changes)
take-further changes zero n = ap (λ k. take k changes) (zero-add n)
take-further [] (suc made) n =
    let none : List Change = [] in
    let more : suc made + n ≡ suc (made + n) = omega arith in
    ap (λ k. take k none) more ∙ sym (take_all n none (omega arith))
take-further (c ∷ cs) (suc made) n =
    let more : suc made + n ≡ suc (made + n) = omega arith in
    ap (λ k. take k (c ∷ cs)) more ∙ ap (λ t. c ∷ t) (take-further cs made n)

module _ {K : Type 0} (tables : TableValues) (old : List (KeptParagraph K)) (changes : List Change) where
  pub way-begun : IsSplit tables (paragraphs_in old) → AreInRange (text_in old) changes → IsUnderWay tables old changes old 0
  way-begun split range =
      record { within = omega arith; split = split; text = refl; places = range; touched = record { steps = []; all = refl; touched = refl; whole = tt }; whole = tt }

  pub way-text : (now : List (KeptParagraph K)) (made n : ℕ) → IsUnderWay tables old changes now made → all_changed (text_in now) (take n (drop made changes)) ≡ all_changed (text_in old) (take (made + n) changes)
  way-text now made n w =
      let run = take n (drop made changes) in
      ap (λ t. all_changed t run) w.text ∙ sym (changed-both (take made changes) run (text_in old)) ∙ ap (all_changed (text_in old)) (sym (take-further changes made n))

  way-further : (now next : List (KeptParagraph K)) (made n : ℕ) → IsUnderWay tables old changes now made → n ≤ length (drop made changes) → text_in next ≡ all_changed (text_in now) (take n (drop made changes))
      → AreInRange (text_in next) (drop n (drop made changes)) → IsSplit tables (paragraphs_in next) → IsStepOf now (take n (drop made changes)) (drop n (drop made changes)) next → IsUnderWay tables old changes next (made + n)
  unfolding touched-more
  way-further now next made n w few text range split step =
      let run = take n (drop made changes) in
      let later = drop n (drop made changes) in
      let front = take-further changes made n in
      let goes = subst (AreWhole w.touched.steps) (sym (take-append-drop n (drop made changes))) w.whole in
      let more = touched-more old now next (take made changes) run later w.touched goes step in
      record {
        within = let e = w.within in omega (arith, few, length-drop made changes, e);
        split = split;
        text = text ∙ way-text now made n w;
        places = subst (AreInRange (text_in next)) (drop-drop n made changes) range;
        touched = record { steps = more.steps; all = front ∙ more.all; touched = more.touched; whole = more.whole };
        whole = subst (AreWhole more.steps) (drop-drop n made changes) (whole-further old now next (take made changes) run later w.touched goes step);
      }

  -- by what is left of the changes as a slice of them
  pub way-on : (now next : List (KeptParagraph K)) (made n : ℕ) (left : List Change) → left ≡ drop made changes → IsUnderWay tables old changes now made → n ≤ length left → text_in next ≡ all_changed (text_in now) (take n left)
      → AreInRange (text_in next) (drop n left) → IsSplit tables (paragraphs_in next) → IsStepOf now (take n left) (drop n left) next → IsUnderWay tables old changes next (made + n)
  way-on now next made n left is w few text range split step =
      let size : length left ≡ length (drop made changes) = ap length is in
      way-further now next made n w (omega (arith, few, size)) (text ∙ ap (λ t. all_changed (text_in now) (take n t)) is) (subst (λ t. AreInRange (text_in next) (drop n t)) is range) split
      (subst (λ t. IsStepOf now (take n t) (drop n t) next) is step)

-- ---- changes in range

pub record AreCounted (text : List ℕ) (changes : List Change) (len : ℕ) : Type 0 where
  pub range : AreInRange text changes
  pub size : length (all_changed text changes) ≡ len

range-both : (xs : List Change) (y : Change) (text : List ℕ) → AreInRange text xs → IsInRange (all_changed text xs) y → AreInRange text (xs ++ y ∷ [])
range-both [] y text r h = (h, tt)
range-both (x ∷ xs) y text r h = (r.0, range-both xs y (changed text x) r.1 h)

pub counted-more : (text : List ℕ) (changes : List Change) (i now next : ℕ) (d : Change) → i < length changes → AreCounted text (take i changes) now
    → IsInRange (all_changed text (take i changes)) (get_or changes i d) → length (changed (all_changed text (take i changes)) (get_or changes i d)) ≡ next → AreCounted text (take (i + 1) changes) next
counted-more text changes i now next d within counted range size =
    let x = get_or changes i d in
    let front = take_more changes i d within in
    record {
      range = subst (AreInRange text) (sym front) (range-both (take i changes) x text counted.range range);
      size = ap (λ t. length (all_changed text t)) front ∙ ap length (changed-both (take i changes) (x ∷ []) text) ∙ size;
    }

-- one that is out of range
pub out-of-range : (text : List ℕ) (changes : List Change) (i : ℕ) (d : Change) → i < length changes → (IsInRange (all_changed text (take i changes)) (get_or changes i d) → ⊥) → AreInRange text changes → ⊥
out-of-range text changes i d within out range =
    let whole = sym (take-append-drop i changes) in
    let later = range-later (take i changes) (drop i changes) text (subst (AreInRange text) whole range) in
    let first = subst (AreInRange (all_changed text (take i changes))) (drop_more changes i d within) later in
    out first.0

-- ---- the first run, by its first change

run-rest : (changes : List Change) (d first : Change) (n : ℕ) → 0 < length changes → get_or changes 0 d ≡ first → take (1 + n) changes ≡ first ∷ take n (drop 1 changes)
run-rest changes d first n some is =
    let more : 1 + n ≡ suc n = omega arith in
    ap₂ take more (changes-first changes d first some is)

pub run-put : (changes : List Change) (d : Change) (place ch more : ℕ) (old text : List ℕ) → 0 < length changes → get_or changes 0 d ≡ Put place ch → old ≡ ch ∷ []
    → ArePut (take more (take (length changes - 1) (drop 1 changes))) (place + 1) old text → take (1 + more) changes ≡ cuts_at place (place - place) ++ puts_at place text
run-put changes d place ch more old text some is one given =
    let a = subst (λ t. ArePut (take more t) (place + 1) old text) (take_rest changes 1) given in
    let none : place - place ≡ 0 = omega arith in
    run-rest changes d (Put place ch) more some is ∙ ap (λ xs. Put place ch ∷ xs) a.puts ∙ ap (puts_at place) (sym (a.text ∙ ap (λ t. t ++ a.points) one))
    ∙ sym (ap (λ n. cuts_at place n ++ puts_at place text) none)

pub run-cut : (changes : List Change) (d : Change) (place cuts puts : ℕ) (old text : List ℕ) → 0 < length changes → get_or changes 0 d ≡ Cut place → old ≡ []
    → take cuts (take (length changes - 1) (drop 1 changes)) ≡ cuts_at place cuts → ArePut (take puts (take (length changes - (1 + cuts)) (drop (1 + cuts) changes))) place old text
    → take (1 + cuts + puts) changes ≡ cuts_at place (place + (1 + cuts) - place) ++ puts_at place text
run-cut changes d place cuts puts old text some is none given rest =
    let front = ap (take cuts) (sym (take_rest changes 1)) ∙ given in
    let a = subst (λ t. ArePut (take puts t) place old text) (take_rest changes (1 + cuts)) rest in
    let more : suc cuts ≡ place + (1 + cuts) - place = omega arith in
    take-further changes (1 + cuts) puts
    ∙ ap₂ (λ x y. x ++ y) (run-rest changes d (Cut place) cuts some is ∙ ap (λ xs. Cut place ∷ xs) front ∙ ap (cuts_at place) more) (a.puts ∙ ap (puts_at place) (sym (a.text ∙ ap (λ t. t ++ a.points) none)))

-- ---- all of it

put-count : (changes : List Change) (place n : ℕ) (old text : List ℕ) (a : ArePut (take n changes) place old text) → n ≤ length changes → length a.points ≡ n
put-count changes place n old text a within = let e = ap length a.puts in omega (arith, e, length-puts a.points place, length-take-le n changes within)

ends-before : (from : ℕ) (points : List ℕ) (later : List Change) → PutsNotAt (from + length points) later → (points ≡ [] → CutsNotAt from later) → EndsBefore from points later
ends-before from points [] puts cuts = tt
ends-before from points (Put at ch ∷ later) puts cuts = puts
ends-before from points (Cut at ∷ later) puts cuts = λ goes. cuts goes.0 goes.1

pub whole-put : (changes : List Change) (place ch more : ℕ) (old text : List ℕ) → old ≡ ch ∷ [] → ArePut (take more (take (length changes - 1) (drop 1 changes))) (place + 1) old text
    → more ≤ length (take (length changes - 1) (drop 1 changes)) → PutsNotAt (place + 1 + more) (drop more (take (length changes - 1) (drop 1 changes)))
    → EndsBefore place text (drop (1 + more) changes)
whole-put changes place ch more old text one given within none =
    let rest = take (length changes - 1) (drop 1 changes) in
    let count = put-count rest (place + 1) more old text given within in
    let size = ap length (given.text ∙ ap (λ t. t ++ given.points) one) in
    let end : place + 1 + more ≡ place + length text = omega (arith, count, size) in
    let later = ap (drop more) (take_rest changes 1) ∙ drop-drop more 1 changes in
    ends-before place text (drop (1 + more) changes) (subst (PutsNotAt (place + length text)) later (subst (λ n. PutsNotAt n (drop more rest)) end none))
    (λ empty. absurd (omega (arith, ap length empty, size)))

pub whole-cut : (changes : List Change) (place cuts puts : ℕ) (old text : List ℕ) → old ≡ []
    → ArePut (take puts (take (length changes - (1 + cuts)) (drop (1 + cuts) changes))) place old text → puts ≤ length (take (length changes - (1 + cuts)) (drop (1 + cuts) changes))
    → PutsNotAt (place + puts) (drop puts (take (length changes - (1 + cuts)) (drop (1 + cuts) changes))) → CutsNotAt place (drop cuts (take (length changes - 1) (drop 1 changes)))
    → EndsBefore place text (drop (1 + cuts + puts) changes)
whole-cut changes place cuts puts old text none given within no_put no_cut =
    let rest = take (length changes - (1 + cuts)) (drop (1 + cuts) changes) in
    let count = put-count rest place puts old text given within in
    let size = ap length (given.text ∙ ap (λ t. t ++ given.points) none) in
    let end : place + puts ≡ place + length text = omega (arith, count, size) in
    let later = ap (drop puts) (take_rest changes (1 + cuts)) ∙ drop-drop puts (1 + cuts) changes in
    let behind = ap (drop cuts) (take_rest changes 1) ∙ drop-drop cuts 1 changes in
    ends-before place text (drop (1 + cuts + puts) changes) (subst (PutsNotAt (place + length text)) later (subst (λ n. PutsNotAt n (drop puts rest)) end no_put))
    (λ empty.
    let all : 1 + cuts ≡ 1 + cuts + puts = omega (arith, ap length empty, count, size) in
    subst (CutsNotAt place) (behind ∙ ap (λ n. drop n changes) all) no_cut)
