-- The goals of `disagrees_row` that are answered by hand.
use Rattle.std.proofs.Common.{◌+◌, take, sym, subst, arith}
use Rattle.std.proofs.lemmas.List.{take_all}
use Rattle.std.proofs.lemmas.List.Elements.{All-more, All-same}
use Rattle.bg_types.specs.OperationSet.{MayJoin}
use Rattle.rga_tree.specs.declared.element.Element.{Element}
use Rattle.desk_replica.specs.Desk.{insertion_of}
use Rattle.bg_types.proofs.Interface.{Holds-may_join}
use Rattle.desk_replica.proofs.Disagreeing.{known_join, known_joins}
use Rattle.desk_replica.proofs.replica.Replica.disagrees_row.Goals as goal

pub loop-at-init : goal.loop-at-init
loop-at-init g c = record {
  within = c.known_in_front-at.ensures.within;
  joins = known_joins c.args.self.now.set (take c.known_in_front-at.result c.args.row.now) c.known_in_front-at.ensures.known;
}

pub loop-at-preserved-in-Known : goal.loop-at-preserved-in-Known
loop-at-preserved-in-Known g c =
    let s = c.args.self.now.set in
    let row = c.args.row.now in
    let may = λ (x : Element). MayJoin s (insertion_of x) in
    let joins = subst may c.index-row-at.is (Holds-may_join s (insertion_of c.index-row-at.result) c.in-Known.ensures) in
    let front = All-more may row c.loop-at.at c.index-row-at.result c.loop-at-test.true c.loop-at.invariant.joins joins in
    record {
      within = omega (arith, c.known_behind-at.ensures.within);
      joins = known_join s row (c.loop-at.at + 1) c.known_behind-at.result front c.known_behind-at.ensures.known;
    }

pub returns-clause-no : goal.returns-clause-no
returns-clause-no g c =
    let row = c.args.row.now in
    let at = c.loop-at.at in
    All-same (λ (x : Element). MayJoin c.args.self.now.set (insertion_of x)) row _ (sym (take_all at row (omega (arith, c.loop-at-test.false)))) c.loop-at.invariant.joins
