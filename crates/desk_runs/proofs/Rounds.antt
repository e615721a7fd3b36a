-- Steps that are made number by number, as far as they are done.
use Rattle.std.proofs.Common.{◌≡◌, ℕ, zero, suc, ◌+◌, ◌-◌, ◌<◌, ◌≤◌, arith, List, [], ◌∷◌, ◌++◌, length, refl, sym, ap, ◌∙◌}
use Rattle.std.specs.Prelude.{map as each}
use Rattle.std.specs.List.{flat_map, range_with_len}
use Rattle.std.proofs.lemmas.List.{append-nil}
use Rattle.std.proofs.lemmas.List.Concat.{flat_map-append, flat_map-cons}
use Rattle.bg_types.specs.declared.op.OpView.{OpView}
use Rattle.desk_files.specs.declared.schedule.step.RunStep.TheVariants.{Take, Show}
use Rattle.desk_files.specs.declared.schedule.step.Numbered.{Numbered}
use Rattle.desk_runs.specs.Round.{unnumbered, file_takes, files_takes, nth_turn, turn}
use Rattle.desk_runs.proofs.Running.{IsBeginning}

-- ---- the steps of a number

-- of a desk
abbrev pub takes_of : List (List OpView) → ℕ → List Numbered
takes_of files desk = files_takes files desk (turn (length files) desk)

-- of a desk's turn
abbrev pub turn_takes : List (List OpView) → (desk : ℕ) → ℕ → List Numbered
turn_takes files desk behind = file_takes files desk (nth_turn (length files) desk behind)

-- of an operation
abbrev pub op_takes : (desk file : ℕ) → ℕ → List Numbered
op_takes desk file op = unnumbered (Take desk file op) ∷ []

-- of a desk that is shown
abbrev pub desk_shows : ℕ → List Numbered
desk_shows desk = unnumbered (Show desk) ∷ []

-- ---- the steps of many numbers

range-append : (a m n : ℕ) → range_with_len a (m + n) ≡ range_with_len a m ++ range_with_len (a + m) n
range-append a zero n = let none : 0 + n ≡ n = omega arith in let same : a ≡ a + 0 = omega arith in ap (range_with_len a) none ∙ ap (λ k. range_with_len k n) same
range-append a (suc m) n =
    let one : suc m + n ≡ suc (m + n) = omega arith in
    let same : a + 1 + m ≡ a + suc m = omega arith in
    ap (range_with_len a) one ∙ ap (λ (l : List ℕ). a ∷ l) (range-append (a + 1) m n ∙ ap (λ k. range_with_len (a + 1) m ++ range_with_len k n) same)

module _ (g : ℕ → List Numbered) (a : ℕ) where
  -- the steps of each number from a on, before this one
  abbrev pub before : ℕ → List Numbered
  before j = flat_map g (range_with_len a (j - a))

  -- and of this one
  pub before-next : (j : ℕ) → a ≤ j → before j ++ g j ≡ before (j + 1)
  before-next j some =
      let at : a + (j - a) ≡ j = omega (arith, some) in
      let next : j - a + 1 ≡ j + 1 - a = omega (arith, some) in
      ap (λ l. before j ++ l) (sym (flat_map-cons g (a + (j - a)) [] ∙ append-nil (g (a + (j - a))) ∙ ap g at))
      ∙ sym (flat_map-append g (range_with_len a (j - a)) ((a + (j - a)) ∷ [])) ∙ ap (flat_map g) (sym (range-append a (j - a) 1)) ∙ ap (λ k. flat_map g (range_with_len a k)) next

  -- the steps of `n` numbers, of which these are the first
  module _ (n : ℕ) (all : List Numbered) (is : flat_map g (range_with_len a n) ≡ all) where
    pub before-begins : (j : ℕ) → a ≤ j → j < a + n → IsBeginning (before (j + 1)) all
    before-begins j some within =
        let i = j + 1 - a in
        let sum : i + (n - i) ≡ n = omega (arith, some, within) in record {
          rest = flat_map g (range_with_len (a + i) (n - i));
          is = sym (flat_map-append g (range_with_len a i) (range_with_len (a + i) (n - i))) ∙ ap (flat_map g) (sym (range-append a i (n - i))) ∙ ap (λ k. flat_map g (range_with_len a k)) sum ∙ is;
        }

    pub before-all : (j : ℕ) → a ≤ j → j ≡ a + n → before j ≡ all
    before-all j some last = let count : j - a ≡ n = omega (arith, some, last) in ap (λ k. flat_map g (range_with_len a k)) count ∙ is

-- one step a number
pub flat-ones : (f : ℕ → Numbered) (xs : List ℕ) → flat_map (λ x. f x ∷ []) xs ≡ each f xs
flat-ones f [] = refl
flat-ones f (x ∷ xs) = flat_map-cons (λ x. f x ∷ []) x xs ∙ ap (λ l. f x ∷ l) (flat-ones f xs)

-- the steps of what is made of each number
pub flat-each : (g : ℕ → List Numbered) (t : ℕ → ℕ) (xs : List ℕ) → flat_map (λ x. g (t x)) xs ≡ flat_map g (each t xs)
flat-each g t [] = refl
flat-each g t (x ∷ xs) = flat_map-cons (λ y. g (t y)) x xs ∙ ap (λ l. g (t x) ++ l) (flat-each g t xs) ∙ sym (flat_map-cons g (t x) (each t xs))
