-- How long the spelling of a list is, compared with that of its beginnings.
use Rattle.std.proofs.Common.{◌≡◌, ℕ, ◌+◌, ◌<◌, ◌≤◌, List, length, get_or, take, arith, ap}
use Rattle.std.proofs.lemmas.List.Folds.{length-flat_map-take}
use Rattle.bg_types.specs.declared.op.OpView.{OpView}
use Rattle.op_codec.specs.Spelling.{frame, spelling}

-- the next frame too has its place in the whole
pub length-spelling-take : (ops : List OpView) (i : ℕ) (op : OpView) → i < length ops → op ≡ get_or ops i op
    → length (spelling (take i ops)) + length (frame op) ≤ length (spelling ops)
length-spelling-take ops i op below is =
    omega (arith, length-flat_map-take frame ops i op below, ap (λ (o : OpView). length (frame o)) is)
