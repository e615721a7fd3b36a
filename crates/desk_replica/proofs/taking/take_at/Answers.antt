-- The goals of `take_at` that are answered by hand.
use Rattle.std.proofs.Common.{sym, ap, subst, ◌∙◌}
use Rattle.std.proofs.Math.ListN.{set}
use Rattle.std.proofs.lemmas.List.{set-get_or}
use Rattle.std.proofs.lemmas.Result.{on_ok_weaker, on_err_weaker, MatchResult-weaker}
use Rattle.std.specs.Prelude.{OnOk}
use Rattle.bg_types.specs.OperationSet.{OperationSet, with_operation}
use Rattle.desk_replica.specs.declared.answer.TakeFault.{TakeFault}
use Rattle.desk_replica.specs.Reply.{IsRefusal, IsRefused}
use Rattle.desk_replica.specs.DeskSets.{sets_of, with_set}
use Rattle.desk_replica.proofs.DeskLists.{set_at-desk, sets_of-set, sites_of-set, taken_there, refusal_or_lack}
use Rattle.desk_replica.proofs.taking.take_at.Goals as goal

pub returns-clause-ok : goal.returns-clause-ok
returns-clause-ok g c =
    let desks = c.args.desks.now in
    let here = set_at-desk desks c.args.desk c.index-desks-desk.result c.requires in
    on_ok_weaker c.take.result (λ ok. sets_of-set desks c.args.desk c.take.new.self ∙ ap (with_set (sets_of desks) c.args.desk) (ok ∙ ap (λ (s : OperationSet). with_operation s c.args.op.now) (sym here))) c.take.ensures.ok

pub returns-clause-sites : goal.returns-clause-sites
returns-clause-sites g c = sites_of-set c.args.desks.now c.args.desk c.take.new.self c.index-desks-desk.result c.take.ensures.site

pub returns-clause-accepted : goal.returns-clause-accepted
returns-clause-accepted g c =
    subst (λ (s : OperationSet). OnOk c.take.result ((fault : TakeFault) → ¬ (IsRefusal s c.args.op.now fault))) (sym (set_at-desk c.args.desks.now c.args.desk c.index-desks-desk.result c.requires))
    c.take.ensures.accepted

pub returns-clause-fault : goal.returns-clause-fault
returns-clause-fault g c =
    let here = set_at-desk c.args.desks.now c.args.desk c.index-desks-desk.result c.requires in
    MatchResult-weaker c.take.result c.take.ensures.answer (λ taken h. tt) (λ fault h. refusal_or_lack _ c.args.op.now fault (subst (λ (s : OperationSet). IsRefused s c.args.op.now fault) (sym here) h))

pub returns-clause-err : goal.returns-clause-err
returns-clause-err g c =
    let desks = c.args.desks.now in
    on_err_weaker c.take.result (λ same. ap (set desks c.args.desk) same ∙ set-get_or desks c.args.desk c.index-desks-desk.result) c.take.ensures.err

pub returns-clause-taken : goal.returns-clause-taken
returns-clause-taken g c = taken_there c.args.desks.now c.args.desk c.index-desks-desk.result c.take.new.self c.args.op.now c.take.result c.requires (record {
  answer_is = c.take.ensures.answer;
  accepted = c.take.ensures.accepted;
  ok = c.take.ensures.ok;
  err = c.take.ensures.err;
  site = c.take.ensures.site;
  spare = c.take.ensures.spare;
  unpaid = c.take.ensures.unpaid;
})
