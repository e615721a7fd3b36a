-- The bytes of a file.
use Rattle.std.specs.Prelude.{◌≡◌, ℕ, List, Option, IfSome}

-- a file that may give this gave these bytes, as far as what it gives is known
pub record AreGiven (gives : Option (List ℕ) → Type 0) (bytes : List ℕ) : Type 0 where
  pub known : Option (List ℕ)
  pub given : gives known
  pub whole : IfSome known (λ all. bytes ≡ all)
