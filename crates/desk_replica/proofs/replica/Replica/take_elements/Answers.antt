-- The goals of `take_elements` that are answered by hand.
use Rattle.std.proofs.Common.{[], take, get_or, sym, ap, subst, ◌∙◌, refl, arith}
use Rattle.std.proofs.lemmas.Result.{err_from_is_err_and}
use Rattle.std.proofs.lemmas.List.Elements.{All-append, All-nil}
use Rattle.std.specs.Prelude.{All}
use Rattle.bg_types.specs.OperationSet.{Holds}
use Rattle.rga_tree.specs.Elements.{elements}
use Rattle.desk_replica.specs.Listed.{insertions_in, operations_in}
use Rattle.desk_replica.proofs.InTurn.{joined, joined_all, joined_push}
use Rattle.desk_replica.proofs.Growing.{desk_still, desk_then, listed_alike, operations_held, stopped_then}
use Rattle.desk_replica.proofs.Hearing.{heard_more, heard_nothing}
use Rattle.desk_replica.proofs.Rows.{insertions-append}
use Rattle.desk_replica.proofs.Tellings.{stays_shown}
use Rattle.desk_replica.proofs.replica.Replica.take_elements.Goals as goal

pub loop-p-init : goal.loop-p-init
loop-p-init g c = record {
  grown = desk_still c.args.self.now c.args.self.now (operations_in (elements (g.S.Sequence.content c.args.seq.now))) refl;
  shows = λ id h. h;
  erased = c.requires.erased;
  done = All-nil (Holds c.args.self.now.set);
  heard =
      (let s = c.args.self.now.set in
      let a = g.L.Listener.told c.args.listener.now in
      let k = g.L.Listener.capacity c.args.listener.now in
      heard_nothing s s a a k k c.requires.well_formed refl refl (omega arith));
}

pub take_part-requires-clause-well_formed : goal.take_part-requires-clause-well_formed
take_part-requires-clause-well_formed g c = c.loop-p.invariant.heard.tells.are_steps.well_formed

pub take_part-requires-clause-part : goal.take_part-requires-clause-part
take_part-requires-clause-part g c = omega (arith, c.loop-p-test.true, c.part_count-p-end.ensures)

pub take_part-requires-clause-erased : goal.take_part-requires-clause-erased
take_part-requires-clause-erased g c = c.loop-p.invariant.erased

pub returns-in_err-take_part-clause-grown : goal.returns-in_err-take_part-clause-grown
returns-in_err-take_part-clause-grown g c =
    desk_then c.args.self.now c.loop-p.self c.take_part.new.self (operations_in (elements (g.S.Sequence.content c.args.seq.now))) (operations_in (elements (g.S.Sequence.content c.args.seq.now))) (operations_in (elements (g.S.Sequence.content c.args.seq.now))) c.loop-p.invariant.grown c.take_part.ensures.grown
    (listed_alike (operations_in (elements (g.S.Sequence.content c.args.seq.now)))) (listed_alike (operations_in (elements (g.S.Sequence.content c.args.seq.now))))

pub returns-in_err-take_part-clause-heard : goal.returns-in_err-take_part-clause-heard
returns-in_err-take_part-clause-heard g c =
    heard_more c.args.self.now.set c.loop-p.self.set c.take_part.new.self.set (g.L.Listener.told c.args.listener.now) (g.L.Listener.told c.loop-p.listener) (g.L.Listener.told c.take_part.new.listener)
    (g.L.Listener.capacity c.args.listener.now) (g.L.Listener.capacity c.loop-p.listener) (g.L.Listener.capacity c.take_part.new.listener) c.loop-p.invariant.heard c.take_part.ensures.heard
    (stays_shown c.args.self.now.set c.loop-p.self.set c.take_part.new.self.set c.take_part.ensures.shows)

pub returns-in_err-take_part-clause-fault : goal.returns-in_err-take_part-clause-fault
returns-in_err-take_part-clause-fault g c =
    let p = err_from_is_err_and c.from_residual.result c.from_residual.ensures.1 in
    rw (p.1, p.2) (stopped_then c.args.self.now c.loop-p.self c.take_part.new.self (operations_in (elements (g.S.Sequence.content c.args.seq.now))) (operations_in (elements (g.S.Sequence.content c.args.seq.now)))
    (g.L.Listener.told c.args.listener.now) (g.L.Listener.told c.loop-p.listener) (g.L.Listener.told c.take_part.new.listener)
    (g.L.Listener.capacity c.args.listener.now) (g.L.Listener.capacity c.loop-p.listener) (g.L.Listener.capacity c.take_part.new.listener) c.in_err-take_part.field-0.0
    c.loop-p.invariant.heard c.take_part.ensures.heard c.in_err-take_part.ensures.fault
    (listed_alike (operations_in (elements (g.S.Sequence.content c.args.seq.now)))))

pub loop-p-preserved : goal.loop-p-preserved
loop-p-preserved g c =
    let u = c.take_part.new.self.set in
    let parts = g.S.Sequence.parts c.args.seq.now in
    record {
      grown = desk_then c.args.self.now c.loop-p.self c.take_part.new.self (operations_in (elements (g.S.Sequence.content c.args.seq.now))) (operations_in (elements (g.S.Sequence.content c.args.seq.now))) (operations_in (elements (g.S.Sequence.content c.args.seq.now))) c.loop-p.invariant.grown c.take_part.ensures.grown
          (listed_alike (operations_in (elements (g.S.Sequence.content c.args.seq.now)))) (listed_alike (operations_in (elements (g.S.Sequence.content c.args.seq.now))));
      shows = λ id h. c.take_part.ensures.shows id (c.loop-p.invariant.shows id h);
      erased = c.take_part.ensures.erased;
      done = subst (All (Holds u)) (sym (ap insertions_in (joined_push parts c.loop-p.p (get_or parts c.loop-p.p []) (omega (arith, c.loop-p-test.true, c.part_count-p-end.ensures)) refl) ∙ insertions-append (joined (take c.loop-p.p parts)) (get_or parts c.loop-p.p [])))
          (All-append (Holds u) (insertions_in (joined (take c.loop-p.p parts))) (insertions_in (get_or parts c.loop-p.p []))
          (λ k d within. c.take_part.ensures.grown.grown.keeps (get_or (insertions_in (joined (take c.loop-p.p parts))) k d) (c.loop-p.invariant.done k d within)) c.in_ok-take_part.ensures.ok);
      heard =
          heard_more c.args.self.now.set c.loop-p.self.set c.take_part.new.self.set (g.L.Listener.told c.args.listener.now) (g.L.Listener.told c.loop-p.listener) (g.L.Listener.told c.take_part.new.listener)
          (g.L.Listener.capacity c.args.listener.now) (g.L.Listener.capacity c.loop-p.listener) (g.L.Listener.capacity c.take_part.new.listener) c.loop-p.invariant.heard c.take_part.ensures.heard
          (stays_shown c.args.self.now.set c.loop-p.self.set c.take_part.new.self.set c.take_part.ensures.shows);
    }

pub returns-clause-ok : goal.returns-clause-ok
returns-clause-ok g c =
    let seq = c.args.seq.now in
    let done = c.loop-p-test.false in
    operations_held c.loop-p.self.set (elements (g.S.Sequence.content seq))
    (subst (λ row. All (Holds c.loop-p.self.set) (insertions_in row)) (joined_all (g.S.Sequence.parts seq) c.loop-p.p (omega (arith, done, c.part_count-p-end.ensures)) ∙ g.met.S.Sequence.whole seq) c.loop-p.invariant.done)
    c.loop-p.invariant.erased
