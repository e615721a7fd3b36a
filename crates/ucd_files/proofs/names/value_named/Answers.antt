-- The goals of `value_named` that are answered by hand.
use Rattle.std.proofs.Common.{ap, ◌∙◌, sym, arith}
use Rattle.std.proofs.lemmas.List.{drop_all}
use Rattle.ucd_files.specs.Names.{named, name_table}
use Rattle.ucd_files.proofs.Named.{named-drop, named-nil}
use Rattle.ucd_files.proofs.names.value_named.Goals as goal

pub returns-then-eq : goal.returns-then-eq
returns-then-eq g c =
    sym (sym c.loop-spelled.invariant
    ∙ named-drop c.args.table.now c.loop-spelled.spelled-index c.loop-spelled-item.result c.args.name.now _ (omega arith) c.loop-spelled-item.is c.if-eq.ensures)

pub loop-spelled-preserved : goal.loop-spelled-preserved
loop-spelled-preserved g c =
    sym (named-drop c.args.table.now c.loop-spelled.spelled-index c.loop-spelled-item.result c.args.name.now _ (omega arith) c.loop-spelled-item.is c.if-eq.ensures)
    ∙ c.loop-spelled.invariant

pub returns : goal.returns
returns g c =
    sym (sym c.loop-spelled.invariant
    ∙ ap (λ t. named (name_table t) c.args.name.now) (drop_all c.loop-spelled.spelled-index c.args.table.now (omega arith))
    ∙ named-nil c.args.name.now)
