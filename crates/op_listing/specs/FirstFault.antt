-- The first faulty line of a text, for any kind of fault. Lines are counted from 1.
use Rattle.std.specs.Prelude.{◌≡◌, ◌+◌, ℕ, List, ◌∷◌, ◌++◌, length, Option, Some, None}
use Rattle.std.specs.List.{AllByRecursion}
use Rattle.std.specs.Str.Lines.{lines}

-- no line has a fault
abbrev pub AreFaultless : {F : Type 0} → (List ℕ → Option F) → List (List ℕ) → Type 0
AreFaultless fault_of all = AllByRecursion (λ line. fault_of line ≡ None) all

-- line n is the first one with a fault, and this is it
pub record IsFirstFault {F : Type 0} (fault_of : List ℕ → Option F) (all : List (List ℕ)) (n : ℕ) (fault : F) : Type 0 where
  pub before : List (List ℕ)
  pub line : List ℕ
  pub after : List (List ℕ)
  pub in_order : all ≡ before ++ line ∷ after
  pub number : n ≡ length before + 1
  pub faultless : AreFaultless fault_of before
  pub shown : fault_of line ≡ Some fault

-- the lines before the rest are read: this many, and none has a fault
pub record AreRead {F : Type 0} (fault_of : List ℕ → Option F) (text rest : List ℕ) (number : ℕ) (done : List (List ℕ)) : Type 0 where
  pub in_order : lines text ≡ done ++ lines rest
  pub count : number ≡ length done
  pub faultless : AreFaultless fault_of done
