-- Rows that are dropped, and how many are kept then.
use Rattle.std.proofs.Common.{◌≡◌, ℕ, zero, suc, ◌+◌, ◌-◌, ◌<◌, ◌≤◌, ◌⊎◌, inl, inr, Bool, true, false, None, Some, Option, List, [], ◌∷◌, ◌++◌, length, get_or, map, take, drop, slice_range, flat_map, refl, sym, ap, ap₂, subst, ◌∙◌, arith}
use Rattle.std.proofs.lemmas.Bool.{cases_lt}
use Rattle.std.proofs.lemmas.List.{take-map, drop-map, length-map, get_or-append_right, get_or_append_left, drop-drop, length-take-le}
use Rattle.std.proofs.lemmas.List.Concat.{flat_map-cons}
use Rattle.std.proofs.lemmas.List.Edits.{split_between, length-between, get_or-between}
use Rattle.std.proofs.lemmas.List.Elements.{All-append, All-take, All-drop, All-head, All-tail}
use Rattle.std.proofs.lemmas.List.Sums.{sum_by-cons, sum_by-append, sum_by-take-drop}
use Rattle.std.specs.List.{All}
use Rattle.std.specs.Option.{option_map_or}
use Rattle.std.specs.Prelude.{sum_by, max, Result, Ok, Err, is_some, option_map, IfSome, IfOk, IfErr, OnOk, OnErr}
use Rattle.bg_types.specs.OperationSet.{OperationSet}
use Rattle.bg_types.specs.declared.class.Base.{Base}
use Rattle.unicode_tables.specs.Tables.{TableValues}
use Rattle.paragraphs.specs.Paragraphs.{paragraph_points}
use Rattle.rga_tree.specs.TextOf.{text}
use Rattle.text_buffer.specs.Buffers.{KeptParagraph, paragraphs_in, kept_in, kept_but, forgotten}
use Rattle.bg_types.specs.declared.change.Change.{Change}
use Rattle.text_buffer.specs.Edits.{anew, AreTouched, IsTouched, IsTouchedInTurn, Step}
use Rattle.text_buffer.specs.declared.fault.BufferFault.{BufferFault}
use Rattle.text_buffer.specs.declared.fault.Stopped.{Stopped}
use Rattle.text_buffer.specs.declared.touched.Touched.{Touched}
use Rattle.live_document.specs.Keeping.{Rows, KeptText, rows_of_text, rows_of_texts, rows_beside, row_weight, rows_weight, weight_held, held_outside, IsLaid, flags, is_kept}
use Rattle.live_document.specs.Cost.{marks, weight_kept, weight_outside}
use Rattle.live_document.specs.Documents.{counted, paragraphs_of}
use Rattle.live_document.proofs.Beside.{kept-same, laid-anew, own_held, held-cons}
use Rattle.live_document.proofs.Cost.{flags-anew, none-kept}
use Rattle.live_document.proofs.Placing.{slice-map}

flags-both : (xs ys : KeptText) → flags (xs ++ ys) ≡ flags xs ++ flags ys
flags-both [] ys = refl
flags-both (x ∷ xs) ys = ap (λ later. is_some x.kept ∷ later) (flags-both xs ys)

-- ---- a sum over paragraphs, to which one adds nothing where nothing is kept of it

module _ {K : Type 0} (f : KeptParagraph K → ℕ) (bare : (points : List ℕ) → f (anew points) ≡ 0) where
  pub sum-anew : (texts : List (List ℕ)) → sum_by f (map (anew {K = K}) texts) ≡ 0
  sum-anew [] = omega arith
  sum-anew (t ∷ texts) =
      let a = sum_by-cons f (anew t) (map anew texts) in
      let none = bare t in
      let h = sum-anew texts in
      omega arith

  -- an edit makes it no greater
  pub sum-touched : (old new : List (KeptParagraph K)) (from to : ℕ) (t : Touched) → IsTouched old from to t new → sum_by f new ≤ sum_by f old
  sum-touched old new from to t h =
      let rest = drop (t.first + t.old) old in
      let is = ap (sum_by f) h.paragraphs in
      let a = sum_by-append f (take t.first old) (map anew h.made ++ rest) in
      let b = sum_by-append f (map anew h.made) rest in
      let c = sum-anew h.made in
      let front = sum_by-take-drop f old t.first in
      let back = sum_by-take-drop f (drop t.first old) t.old in
      let there = ap (sum_by f) (drop-drop t.old t.first old) in
      omega arith

  pub sum-in_turn : (old new : List (KeptParagraph K)) (steps : List Step) → IsTouchedInTurn old steps new → sum_by f new ≤ sum_by f old
  sum-in_turn old new [] same = let e = ap (sum_by f) same in omega arith
  sum-in_turn old new (s ∷ steps) h =
      let one = sum-touched old h.0 s.from s.to s.touched h.1 in
      let later = sum-in_turn h.0 new steps h.2 in
      omega arith

-- ---- what weighs that is kept

-- nothing is kept of any of them
pub held-none : (kept new : KeptText) → kept_in new ≡ forgotten (kept_in kept) → weight_held new ≡ 0
held-none kept [] e = omega arith
held-none [] (q ∷ new) e = cc
held-none (p ∷ kept) (q ∷ new) e =
    let a = held-cons q new in
    let none : rows_weight (rows_beside q) ≡ 0 = ap (λ (k : Option Rows). rows_weight (option_map_or (λ (rows : Rows). rows) k [])) (ap (λ l. get_or l 0 None) e) in
    let later = held-none kept new (ap (drop 1) e) in
    omega arith

-- an edit keeps no more
pub held-after : (old new : KeptText) (from to : ℕ) (r : Result Touched BufferFault) → IfOk r (λ t. IsTouched old from to t new) → OnErr r (new ≡ old) → weight_held new ≤ weight_held old
held-after old new from to (Ok t) touched same = sum-touched own_held (λ points. refl) old new from to t touched
held-after old new from to (Err e) touched same = let h = ap weight_held same in omega arith

pub held-all : (old new : KeptText) (changes : List Change) (r : Result (Unit {0}) Stopped) → OnOk r (AreTouched old changes new) → IfErr r (λ s. AreTouched old (take s.made changes) new)
    → weight_held new ≤ weight_held old
held-all old new changes (Ok u) all begun = sum-in_turn own_held (λ points. refl) old new all.steps all.touched
held-all old new changes (Err s) all begun = sum-in_turn own_held (λ points. refl) old new begun.steps begun.touched

pub held-anew : (texts : List (List ℕ)) → weight_held (map (anew {K = Rows}) texts) ≡ 0
held-anew texts = sum-anew own_held (λ points. refl) texts

-- no more than the paragraphs have
module _ (tables : TableValues) (width : ℕ) (base : Base) where
  beside-most : (o : Option Rows) (points : List ℕ) → IfSome o (λ (rows : Rows). rows ≡ rows_of_text tables width base points)
      → rows_weight (option_map_or (λ (rows : Rows). rows) o []) ≤ rows_weight (rows_of_text tables width base points)
  beside-most None points h = omega arith
  beside-most (Some rows) points h = let e = ap rows_weight h in omega arith

  pub held-most : (kept : KeptText) → All (IsLaid tables width base) kept → weight_held kept ≤ rows_weight (rows_of_texts tables width base (paragraphs_in kept))
  held-most [] all = omega arith
  held-most (p ∷ kept) all =
      let a = held-cons p kept in
      let b = beside-most p.kept p.points (All-head (IsLaid tables width base) p kept all) in
      let f = rows_of_text tables width base in
      let c = ap rows_weight (flat_map-cons f p.points (paragraphs_in kept)) in
      let d = sum_by-append row_weight (f p.points) (flat_map f (paragraphs_in kept)) in
      let later = held-most kept (All-tail (IsLaid tables width base) p kept all) in
      omega arith

-- ---- what is kept of a stretch alone

paragraphs-both : (xs ys : KeptText) → paragraphs_in (xs ++ ys) ≡ paragraphs_in xs ++ paragraphs_in ys
paragraphs-both [] ys = refl
paragraphs-both (x ∷ xs) ys = ap (λ later. x.points ∷ later) (paragraphs-both xs ys)

kept-both : (xs ys : KeptText) → kept_in (xs ++ ys) ≡ kept_in xs ++ kept_in ys
kept-both [] ys = refl
kept-both (x ∷ xs) ys = ap (λ later. x.kept ∷ later) (kept-both xs ys)

abbrev bare : KeptText → KeptText
bare kept = map anew (paragraphs_in kept)

paragraphs-bare : (kept : KeptText) → paragraphs_in (bare kept) ≡ paragraphs_in kept
paragraphs-bare [] = refl
paragraphs-bare (p ∷ kept) = ap (λ later. p.points ∷ later) (paragraphs-bare kept)

kept-bare : (kept : KeptText) → kept_in (bare kept) ≡ forgotten (kept_in kept)
kept-bare [] = refl
kept-bare (p ∷ kept) = ap (λ later. None ∷ later) (kept-bare kept)

none-bare : (kept : KeptText) (k : ℕ) → is_kept (flags (bare kept)) k ≡ false
none-bare kept k = ap (λ ms. is_kept ms k) (flags-anew (paragraphs_in kept)) ∙ none-kept (length (paragraphs_in kept)) k

module _ (old new : KeptText) (from to : ℕ) (order : from ≤ to) (within : to ≤ length old)
    (paragraphs : paragraphs_in new ≡ paragraphs_in old) (kept : kept_in new ≡ kept_but from to (kept_in old)) where
  abbrev parts : KeptText
  parts = bare (take from old) ++ (slice_range old from to ++ bare (drop to old))

  pub but-is : new ≡ bare (take from old) ++ (slice_range old from to ++ bare (drop to old))
  but-is = kept-same parts new (paragraphs ∙ same_points) (kept ∙ same_kept)
    where
      same_points : paragraphs_in old ≡ paragraphs_in parts
      same_points =
          ap (λ (ps : KeptText). paragraphs_in ps) (split_between old from to order)
          ∙ paragraphs-both (take from old) (slice_range old from to ++ drop to old)
          ∙ ap₂ (λ x y. x ++ y) (sym (paragraphs-bare (take from old)))
          (paragraphs-both (slice_range old from to) (drop to old)
          ∙ ap (λ y. paragraphs_in (slice_range old from to) ++ y) (sym (paragraphs-bare (drop to old)))
          ∙ sym (paragraphs-both (slice_range old from to) (bare (drop to old))))
          ∙ sym (paragraphs-both (bare (take from old)) (slice_range old from to ++ bare (drop to old)))

      same_kept : kept_but from to (kept_in old) ≡ kept_in parts
      same_kept =
          let f : KeptParagraph Rows → Option Rows = λ p. p.kept in
          ap₂ (λ x y. x ++ y) (ap forgotten (take-map f from old) ∙ sym (kept-bare (take from old)))
          (ap₂ (λ x y. x ++ y) (slice-map f old from to)
          (ap forgotten (drop-map f to old) ∙ sym (kept-bare (drop to old)))
          ∙ sym (kept-both (slice_range old from to) (bare (drop to old))))
          ∙ sym (kept-both (bare (take from old)) (slice_range old from to ++ bare (drop to old)))

  pub laid-but : (tables : TableValues) (width : ℕ) (base : Base) → All (IsLaid tables width base) old → All (IsLaid tables width base) new
  laid-but tables width base all =
      subst (All (IsLaid tables width base)) (sym but-is)
      (All-append (IsLaid tables width base) (bare (take from old)) (slice_range old from to ++ bare (drop to old)) (laid-anew tables width base (paragraphs_in (take from old)))
      (All-append (IsLaid tables width base) (slice_range old from to) (bare (drop to old))
      (All-take (IsLaid tables width base) (to - from) (drop from old) (All-drop (IsLaid tables width base) from old all))
      (laid-anew tables width base (paragraphs_in (drop to old)))))

  pub held-but : weight_held new ≡ weight_held (slice_range old from to)
  held-but =
      let is = ap weight_held but-is in
      let a = sum_by-append own_held (bare (take from old)) (slice_range old from to ++ bare (drop to old)) in
      let b = sum_by-append own_held (slice_range old from to) (bare (drop to old)) in
      let c = held-anew (paragraphs_in (take from old)) in
      let d = held-anew (paragraphs_in (drop to old)) in
      omega arith

  front-count : length (flags (bare (take from old))) ≡ from
  front-count =
      length-map (bare (take from old)) (λ (p : KeptParagraph Rows). is_some p.kept) ∙ length-map (paragraphs_in (take from old)) anew
      ∙ length-map (take from old) (λ (p : KeptParagraph Rows). p.points) ∙ length-take-le from old (omega arith)

  middle : flags (slice_range old from to) ≡ slice_range (flags old) from to
  middle =
      sym (slice-map (λ (p : KeptParagraph Rows). is_some p.kept) old from to)

  middle-count : length (flags (slice_range old from to)) ≡ to - from
  middle-count = let size = length-map old (λ (p : KeptParagraph Rows). is_some p.kept) in ap length middle ∙ length-between (flags old) from to (omega arith)

  flags-but : flags new ≡ flags (bare (take from old)) ++ (flags (slice_range old from to) ++ flags (bare (drop to old)))
  flags-but =
      ap flags but-is ∙ flags-both (bare (take from old)) (slice_range old from to ++ bare (drop to old))
      ∙ ap (λ ms. flags (bare (take from old)) ++ ms) (flags-both (slice_range old from to) (bare (drop to old)))

  behind-but : (k : ℕ) → from ≤ k → is_kept (flags new) k ≡ is_kept (flags (slice_range old from to) ++ flags (bare (drop to old))) (k - from)
  behind-but k low =
      ap (λ ms. is_kept ms k) flags-but
      ∙ get_or-append_right (flags (bare (take from old))) (flags (slice_range old from to) ++ flags (bare (drop to old))) from k false front-count low

  pub inside-but : (k : ℕ) → from ≤ k → k < to → is_kept (flags new) k ≡ is_kept (flags old) k
  inside-but k low high =
      let many = middle-count in
      let size = length-map old (λ (p : KeptParagraph Rows). is_some p.kept) in
      let here : from + (k - from) ≡ k = omega arith in
      behind-but k low
      ∙ get_or_append_left (flags (slice_range old from to)) (flags (bare (drop to old))) false (k - from) (omega arith)
      ∙ ap (λ ms. is_kept ms (k - from)) middle
      ∙ get_or-between (flags old) from to (k - from) false (omega arith)
      ∙ ap (is_kept (flags old)) here

  -- of the others nothing is kept
  pub outside-but : (k : ℕ) → is_kept (flags new) k ≡ true → (from ≤ k) × (k < to)
  outside-but k there = elim (cases_lt k from) [
    | inl front ↦
        (let count = front-count in
        let none = ap (λ ms. is_kept ms k) flags-but ∙ get_or_append_left (flags (bare (take from old))) (flags (slice_range old from to) ++ flags (bare (drop to old))) false k (omega arith)
        ∙ none-bare (take from old) k in
        cc)
    | inr low ↦ (elim (cases_lt k to) [
      | inl high ↦ (low, high)
      | inr back ↦
          (let none = behind-but k low
          ∙ get_or-append_right (flags (slice_range old from to)) (flags (bare (drop to old))) (to - from) (k - from) false middle-count (omega arith)
          ∙ none-bare (drop to old) (k - from - (to - from)) in
          cc)
    ])
  ]

-- ---- what is seen of it

beside-counted : (o : Option Rows) → option_map_or (λ (rows : ℕ). rows) (option_map rows_weight o) 0 ≡ rows_weight (option_map_or (λ (rows : Rows). rows) o [])
beside-counted None = refl
beside-counted (Some rows) = refl

pub kept-held : (kept : KeptText) → weight_kept (map counted kept) ≡ weight_held kept
kept-held [] = refl
kept-held (p ∷ kept) =
    let a = held-cons p kept in
    let b = sum_by-cons (λ (q : KeptParagraph ℕ). option_map_or (λ (rows : ℕ). rows) q.kept 0) (counted p) (map counted kept) in
    let own = beside-counted p.kept in
    let later = kept-held kept in
    omega arith

-- so outside a stretch, and inside
pub outside-held : (kept : KeptText) (from to : ℕ) → held_outside kept from to ≡ weight_outside (map counted kept) from to
outside-held kept from to =
    let a = sym (kept-held (take from kept)) ∙ ap weight_kept (sym (take-map counted from kept)) in
    let b = sym (kept-held (drop to kept)) ∙ ap weight_kept (sym (drop-map counted to kept)) in
    omega (arith, a, b)

pub slice-held : (kept : KeptText) (from to : ℕ) → weight_held (slice_range kept from to) ≡ weight_kept (slice_range (map counted kept) from to)
slice-held kept from to =
    sym (kept-held (slice_range kept from to)) ∙ ap weight_kept (sym (slice-map counted kept from to))

-- ---- the same of what is seen

abbrev own_kept : KeptParagraph ℕ → ℕ
own_kept p = option_map_or (λ (rows : ℕ). rows) p.kept 0

-- what is behind keeps nothing
pub none-behind : (behind : Bool) (tables : TableValues) (set : OperationSet) (kept : KeptText) → (behind ≡ false → ⊥) → weight_kept (paragraphs_of behind tables set kept) ≡ 0
none-behind true tables set kept h = sum-anew own_kept (λ points. refl) (paragraph_points tables (text set))
none-behind false tables set kept h = absurd (h refl)

own-none : (o : Option ℕ) → (is_some o ≡ true → ⊥) → option_map_or (λ (rows : ℕ). rows) o 0 ≡ 0
own-none None h = refl
own-none (Some n) h = absurd (h refl)

front-none : (ps : List (KeptParagraph ℕ)) (n : ℕ) → ((k : ℕ) → is_kept (marks ps) k ≡ true → n ≤ k) → weight_kept (take n ps) ≡ 0
front-none ps zero h = omega arith
front-none [] (suc n) h = omega arith
front-none (p ∷ ps) (suc n) h =
    let a = sum_by-cons own_kept p (take n ps) in
    let own = own-none p.kept (λ is. (let low = h 0 is in absurd (omega arith))) in
    let later = front-none ps n (λ k there. (let low = h (suc k) there in omega arith)) in
    omega arith

back-none : (ps : List (KeptParagraph ℕ)) (n : ℕ) → ((k : ℕ) → is_kept (marks ps) k ≡ true → k < n) → weight_kept (drop n ps) ≡ 0
back-none [] zero h = omega arith
back-none [] (suc n) h = omega arith
back-none (p ∷ ps) zero h =
    let a = sum_by-cons own_kept p ps in
    let own = own-none p.kept (λ is. (let high = h 0 is in absurd (omega arith))) in
    let later = back-none ps zero (λ k there. (let high = h (suc k) there in absurd (omega arith))) in
    omega arith
back-none (p ∷ ps) (suc n) h = back-none ps n (λ k there. (let high = h (suc k) there in omega arith))

-- rows are kept of a stretch alone
kept-inside : (ps : List (KeptParagraph ℕ)) (from to : ℕ) → from ≤ to → ((k : ℕ) → is_kept (marks ps) k ≡ true → (from ≤ k) × (k < to))
    → weight_kept ps ≡ weight_kept (slice_range ps from to)
kept-inside ps from to order inside =
    let front = sum_by-take-drop own_kept ps from in
    let back = sum_by-take-drop own_kept (drop from ps) (to - from) in
    let e : from + (to - from) ≡ to = omega arith in
    let there = ap weight_kept (drop-drop (to - from) from ps) in
    let here = ap (λ n. weight_kept (drop n ps)) e in
    let a = front-none ps from (λ k is. (inside k is).0) in
    let b = back-none ps to (λ k is. (inside k is).1) in
    omega arith

-- after edits no more rows are kept than may be, or than a stretch had of which alone some were kept
pub kept-edited : (old new : List (KeptParagraph ℕ)) (steps : List Step) (from to most : ℕ) → from ≤ to → IsTouchedInTurn old steps new
    → (weight_kept old ≤ most) ⊎ ((k : ℕ) → is_kept (marks old) k ≡ true → (from ≤ k) × (k < to)) → weight_kept new ≤ max most (weight_kept (slice_range old from to))
kept-edited old new steps from to most order touched held =
    let less = sum-in_turn own_kept (λ points. refl) old new steps touched in
    elim held [ inl few ↦ omega (arith, less, few) | inr inside ↦ (let own = kept-inside old from to order inside in omega (arith, less, own)) ]
