-- Where the last of some rows ends.
use Rattle.std.proofs.Common.{◌≡◌, ◌+◌, ℕ, zero, suc, List, [], ◌∷◌, length, get_or, ap, ◌∙◌, arith}
use Rattle.cell_grid.specs.Rows.{DrawnRow}
use Rattle.cell_grid.specs.Laws.{RowsFollow}

pub last-ends : (rows : List DrawnRow) (n from to : ℕ) (r : DrawnRow) → RowsFollow from rows to → n + 1 ≡ length rows → r ≡ get_or rows n r → r.last_place ≡ to
last-ends [] n from to r follow last is = absurd (omega (arith, last))
last-ends (x ∷ []) zero from to r follow last is = ap (λ (q : DrawnRow). q.last_place) is ∙ follow.2
last-ends (x ∷ y ∷ more) zero from to r follow last is = absurd (omega (arith, last))
last-ends (x ∷ rest) (suc n) from to r follow last is = last-ends rest n x.last_place to r follow.2 (omega (arith, last)) is
