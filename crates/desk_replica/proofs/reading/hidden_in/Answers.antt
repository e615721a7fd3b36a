-- The goals of `hidden_in` that are answered by hand.
use Rattle.std.proofs.Common.{[], ◌∷◌, drop, take, ◌+◌, ap, sym, ◌∙◌, append_assoc}
use Rattle.std.specs.Prelude.{slice_get}
use Rattle.rga_tree.specs.Row.{hidden_ids}
use Rattle.desk_replica.proofs.Rows.{hidden_middle, hidden_one}
use Rattle.desk_replica.proofs.InTurn.{split_at}
use Rattle.desk_replica.proofs.reading.hidden_in.Goals as goal

pub returns-then-left-eq0-clause-ok : goal.returns-then-left-eq0-clause-ok
returns-then-left-eq0-clause-ok c =
    let row = c.args.row.now in
    let j = c.loop-e.e-index in
    let e = c.e-item.result in
    hidden_middle row (take j row) (e ∷ []) (drop (j + 1) row) c.args.k c.loop-e.left e.id (split_at row j e c.loop-e-test.true c.e-item.is ∙ sym (append_assoc (take j row) (e ∷ []) (drop (j + 1) row))) c.loop-e.invariant
    (ap (λ k. slice_get (hidden_ids (e ∷ [])) k) c.if-left-eq0.true ∙ ap (λ l. slice_get l 0) (hidden_one e c.if-e.true))
