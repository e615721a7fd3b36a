-- Answers that are handed on.
use Rattle.std.proofs.Common.{◌≡◌, Result, Ok, Err, sym, subst}
use Rattle.std.specs.Prelude.{IfErr, IsErrAnd}

-- what holds of the fault as an answer holds of the answer
pub answer_handed : {A E : Type 0} (P : Result A E → Type 0) (r : Result A E) (fault : E) → IsErrAnd r (λ e. e ≡ fault) → P (Err fault) → P r
answer_handed P (Ok done) fault h p = absurd h
answer_handed P (Err e) fault h p = subst (λ f. P (Err f)) (sym h) p

pub err_handed : {A E : Type 0} (P : E → Type 0) (r : Result A E) (fault : E) → IsErrAnd r (λ e. e ≡ fault) → P fault → IfErr r P
err_handed P r fault h p = answer_handed (λ a. IfErr a P) r fault h p
