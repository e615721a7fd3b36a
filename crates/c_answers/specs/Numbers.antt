-- Numbers that are written to out values, or a fault.
use Rattle.std.specs.Prelude.{◌≡◌, ℕ}

-- where the condition holds, these numbers were written; else the answer is the fault, and those of none were written
abbrev pub AreNumbersWritten : {X : Type 0} → Type 0 → (numbers none : X) → (fault : ℕ) → (written : X) → (answer : ℕ) → Type 0
AreNumbersWritten Holds numbers none fault written answer =
    (Holds → (answer ≡ 0) × (written ≡ numbers)) × (¬ Holds → (answer ≡ fault) × (written ≡ none))
