-- What was held is written before what finds no room behind it.
use Rattle.std.proofs.Common.{◌++◌, refl}
use Rattle.bg_types.specs.Sink.{AppendsBeginning}
use Rattle.std.proofs.Common.{[], ap, sym, subst, append-nil}
use Rattle.cell_grid.specs.Held.{AppendsAllBut}
use Rattle.cell_grid.proofs.HeldEnd.{but-none, begins-longer}
use Rattle.cell_grid.proofs.Writing.{on_err, on_err_by, on_ok_by, Appends-on, Begins-on}
use Rattle.cell_grid.proofs.held.hold_text.Goals as goal

pub returns-in_err-let_go-clause-err : goal.returns-in_err-let_go-clause-err
returns-in_err-let_go-clause-err g c = on_err c.from_residual.result (begins-longer _ _ c.args.held.now.bytes c.args.text.now _ c.in_err-let_go.ensures.err refl)

pub returns-clause-ok : goal.returns-clause-ok
returns-clause-ok g c =
    let old = g.W.Sink.written c.args.sink.now in
    let new = g.W.Sink.written c.put_all.new.sink in
    let all = c.args.held.now.bytes ++ c.args.text.now in
    on_ok_by c.put_all.result
    (λ end. subst (AppendsAllBut old new all) (sym c.in_ok-let_go.ensures.empty)
    (but-none old new all (Appends-on _ _ _ c.args.held.now.bytes _ all c.in_ok-let_go.ensures.ok end (ap (λ t. c.args.held.now.bytes ++ t) (sym c.as_bytes.ensures.value)))))
    c.put_all.ensures.ok

pub returns-clause-err : goal.returns-clause-err
returns-clause-err g c =
    let old = g.W.Sink.written c.args.sink.now in
    let new = g.W.Sink.written c.put_all.new.sink in
    let before = c.args.held.now.bytes in
    on_err_by c.put_all.result
    (λ end. Begins-on _ _ _ before c.args.text.now [] (before ++ c.args.text.now) c.in_ok-let_go.ensures.ok (subst (AppendsBeginning (g.W.Sink.written c.let_go.new.sink) new) c.as_bytes.ensures.value end)
    (ap (λ t. before ++ t) (sym (append-nil c.args.text.now))))
    c.put_all.ensures.err
