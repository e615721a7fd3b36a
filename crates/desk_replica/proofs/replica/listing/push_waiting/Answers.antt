-- One more operation that waits was listed.
use Rattle.std.proofs.Common.{◌++◌, List, [], ◌∷◌, take, sym, ap, ◌∙◌, append_assoc, arith}
use Rattle.bg_types.specs.declared.op.OpView.{OpView}
use Rattle.desk_replica.specs.Placement.{waiting_in}
use Rattle.desk_replica.proofs.Disagreeing.{waiting_at}
use Rattle.desk_replica.proofs.InTurn.{take_push}
use Rattle.desk_replica.proofs.replica.listing.push_waiting.Goals as goal

pub loop-j-preserved : goal.loop-j-preserved
loop-j-preserved c =
    let w = c.args.held.now in
    let old = c.args.ops.now.items in
    let j = c.loop-j.j in
    let op = c.nth.result in
    let at = waiting_at w j op c.nth.ensures.listed (omega (arith, c.loop-j-test.true, c.requires)) in
    c.in_ok-push.ensures.items ∙ ap (λ (l : List OpView). l ++ op ∷ []) c.loop-j.invariant ∙ append_assoc old (take j (waiting_in w)) (op ∷ [])
    ∙ ap (λ (l : List OpView). old ++ l) (sym (take_push (waiting_in w) j op at.0 at.1))
