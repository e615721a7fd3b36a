-- A size that is told where there is no buffer is that of bytes that are copied into one of no length.
use Rattle.std.proofs.Common.{◌≡◌, inl, inr, ℕ, List, [], ◌∷◌, length, refl, ◌∙◌, arith}
use Rattle.std.specs.Prelude.{Result, Ok, Err, MatchResult}
use Rattle.c_answers.specs.Copying.{IsCopied, IsPrinted, IsSize}
use Rattle.cell_grid.specs.Print.{IsSizeOf}

copied_nowhere : (bytes : List ℕ) (size answer : ℕ) → IsSize (length bytes) size answer → IsCopied bytes [] [] size answer
copied_nowhere [] size answer (told, some, none) = record { told = told; fits = λ _. (none told, refl); short = λ wrong. absurd (omega (arith, wrong)) }
copied_nowhere (x ∷ bytes) size answer (told, some, none) = record {
  told = told;
  fits = λ wrong. absurd (omega (arith, wrong));
  short = λ _. (some (omega (arith, told)), refl);
}

sized_nowhere : {E : Type 0} (bytes : List ℕ) (r : Result ℕ E) (size answer : ℕ) → IsSizeOf bytes r
    → MatchResult r (λ n. IsSize n size answer) (λ _. (answer ≡ 9) × (size ≡ 0)) → IsPrinted bytes [] [] size answer
sized_nowhere bytes (Ok n) size answer is (told, some, none) = inl (copied_nowhere bytes size answer (told ∙ is, some, none))
sized_nowhere bytes (Err e) size answer long (memory, nothing) = inr (memory, (refl, nothing), λ _. long)

pub printed_nowhere : {E : Type 0} (bytes before : List ℕ) (r : Result ℕ E) (size answer : ℕ) → length before ≡ 0 → IsSizeOf bytes r
    → MatchResult r (λ n. IsSize n size answer) (λ _. (answer ≡ 9) × (size ≡ 0)) → IsPrinted bytes before before size answer
printed_nowhere bytes [] r size answer empty is told = sized_nowhere bytes r size answer is told
printed_nowhere bytes (x ∷ before) r size answer empty is told = absurd (omega (arith, empty))
