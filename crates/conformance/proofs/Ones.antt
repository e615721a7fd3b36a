-- Lists of ones.
use Rattle.std.proofs.Common.{◌≡◌, ℕ, ◌<◌, All, sum, replicate, arith}
use Rattle.std.proofs.lemmas.List.Elements.{All-replicate}
use Rattle.std.proofs.lemmas.List.Folds.{sum_by-replicate}

pub ones_positive : (n : ℕ) → All (λ size. 0 < size) (replicate n 1)
ones_positive n = All-replicate (λ size. 0 < size) n 1 (omega arith)

pub ones_sum : (n : ℕ) → sum (replicate n 1) ≡ n
ones_sum n = omega (arith, sum_by-replicate (λ x. x) n 1)
