-- Operations that are taken one after the other.
use Rattle.std.proofs.Common.{◌≡◌, ◌++◌, ◌+◌, ◌<◌, ℕ, List, [], ◌∷◌, length, take, get_or, refl, sym, ap, ◌∙◌}
use Rattle.std.proofs.lemmas.List.{take_more}
use Rattle.bg_types.specs.OperationSet.{OperationSet, with_operation}
use Rattle.bg_types.specs.declared.op.OpView.{OpView}
use Rattle.desk_replica.specs.Merging.{with_operations}

pub with-append_one : (s : OperationSet) (ops : List OpView) (op : OpView) → with_operations s (ops ++ op ∷ []) ≡ with_operation (with_operations s ops) op
with-append_one s [] op = refl
with-append_one s (x ∷ ops) op = with-append_one (with_operation s x) ops op

-- one more operation of the list
pub taken_next : (s u v : OperationSet) (ops : List OpView) (j : ℕ) (op : OpView) → j < length ops → op ≡ get_or ops j op
    → u ≡ with_operations s (take j ops) → v ≡ with_operation u op → v ≡ with_operations s (take (j + 1) ops)
taken_next s u v ops j op within is taken more =
    more ∙ ap (λ t. with_operation t op) taken ∙ sym (with-append_one s (take j ops) op)
    ∙ ap (with_operations s) (sym (take_more ops j op within ∙ ap (λ x. take j ops ++ x ∷ []) (sym is)))
