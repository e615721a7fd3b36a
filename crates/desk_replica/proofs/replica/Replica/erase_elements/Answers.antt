-- The goals of `erase_elements` that are answered by hand.
use Rattle.std.proofs.Common.{take, get_or, sym, subst, ◌∙◌, refl, arith}
use Rattle.std.proofs.lemmas.Result.{err_from_is_err_and}
use Rattle.std.proofs.lemmas.List.Elements.{All-append, All-nil}
use Rattle.std.specs.Prelude.{All}
use Rattle.rga_tree.specs.Elements.{elements}
use Rattle.desk_replica.specs.Listed.{deletions_in}
use Rattle.desk_replica.specs.Merging.{IsErasedIn}
use Rattle.desk_replica.proofs.InTurn.{joined, joined_all, joined_push}
use Rattle.desk_replica.proofs.Growing.{desk_still, desk_then, erased_more, listed_alike, part_listed, shows_erased, stopped_then}
use Rattle.desk_replica.proofs.Hearing.{heard_more, heard_nothing}
use Rattle.desk_replica.proofs.Rows.{deletions-append}
use Rattle.desk_replica.proofs.Tellings.{stays_old}
use Rattle.desk_replica.proofs.replica.Replica.erase_elements.Goals as goal

pub loop-p-init : goal.loop-p-init
loop-p-init g c = record {
  grown = desk_still c.args.self.now c.args.self.now (deletions_in (elements (g.S.Sequence.content c.args.seq.now))) refl;
  insertions = refl;
  done = All-nil (IsErasedIn c.args.self.now.set);
  heard =
      (let s = c.args.self.now.set in
      let a = g.L.Listener.told c.args.listener.now in
      let k = g.L.Listener.capacity c.args.listener.now in
      heard_nothing s s a a k k c.requires.well_formed refl refl (omega arith));
}

pub erase_row-requires : goal.erase_row-requires
erase_row-requires g c = record { well_formed = c.loop-p.invariant.heard.tells.are_steps.well_formed }

pub returns-in_err-erase_row-clause-grown : goal.returns-in_err-erase_row-clause-grown
returns-in_err-erase_row-clause-grown g c =
    desk_then c.args.self.now c.loop-p.self c.erase_row.new.self (deletions_in (elements (g.S.Sequence.content c.args.seq.now))) (deletions_in c.part.result.now) (deletions_in (elements (g.S.Sequence.content c.args.seq.now))) c.loop-p.invariant.grown c.erase_row.ensures.grown
    (listed_alike (deletions_in (elements (g.S.Sequence.content c.args.seq.now)))) (part_listed deletions_in deletions-append (g.S.Sequence.parts c.args.seq.now) c.loop-p.p c.part.result.now (elements (g.S.Sequence.content c.args.seq.now)) (omega (arith, c.loop-p-test.true, c.part_count-p-end.ensures)) c.part.ensures (g.met.S.Sequence.whole c.args.seq.now))

pub returns-in_err-erase_row-clause-heard : goal.returns-in_err-erase_row-clause-heard
returns-in_err-erase_row-clause-heard g c =
    heard_more c.args.self.now.set c.loop-p.self.set c.erase_row.new.self.set (g.L.Listener.told c.args.listener.now) (g.L.Listener.told c.loop-p.listener) (g.L.Listener.told c.erase_row.new.listener)
    (g.L.Listener.capacity c.args.listener.now) (g.L.Listener.capacity c.loop-p.listener) (g.L.Listener.capacity c.erase_row.new.listener) c.loop-p.invariant.heard c.erase_row.ensures.heard
    (stays_old c.args.self.now.set c.loop-p.self.set c.erase_row.new.self.set (shows_erased c.args.self.now.set c.loop-p.self.set c.loop-p.invariant.insertions c.loop-p.invariant.grown.grown.keeps))

pub returns-in_err-erase_row-clause-fault : goal.returns-in_err-erase_row-clause-fault
returns-in_err-erase_row-clause-fault g c =
    let p = err_from_is_err_and c.from_residual.result c.from_residual.ensures.1 in
    rw (p.1, p.2) (stopped_then c.args.self.now c.loop-p.self c.erase_row.new.self (deletions_in c.part.result.now) (deletions_in (elements (g.S.Sequence.content c.args.seq.now)))
    (g.L.Listener.told c.args.listener.now) (g.L.Listener.told c.loop-p.listener) (g.L.Listener.told c.erase_row.new.listener)
    (g.L.Listener.capacity c.args.listener.now) (g.L.Listener.capacity c.loop-p.listener) (g.L.Listener.capacity c.erase_row.new.listener) c.in_err-erase_row.field-0.0
    c.loop-p.invariant.heard c.erase_row.ensures.heard c.in_err-erase_row.ensures.fault
    (part_listed deletions_in deletions-append (g.S.Sequence.parts c.args.seq.now) c.loop-p.p c.part.result.now (elements (g.S.Sequence.content c.args.seq.now)) (omega (arith, c.loop-p-test.true, c.part_count-p-end.ensures)) c.part.ensures (g.met.S.Sequence.whole c.args.seq.now)))

pub loop-p-preserved : goal.loop-p-preserved
loop-p-preserved g c =
    let u = c.erase_row.new.self.set in
    record {
      grown = desk_then c.args.self.now c.loop-p.self c.erase_row.new.self (deletions_in (elements (g.S.Sequence.content c.args.seq.now))) (deletions_in c.part.result.now) (deletions_in (elements (g.S.Sequence.content c.args.seq.now))) c.loop-p.invariant.grown c.erase_row.ensures.grown
          (listed_alike (deletions_in (elements (g.S.Sequence.content c.args.seq.now)))) (part_listed deletions_in deletions-append (g.S.Sequence.parts c.args.seq.now) c.loop-p.p c.part.result.now (elements (g.S.Sequence.content c.args.seq.now)) (omega (arith, c.loop-p-test.true, c.part_count-p-end.ensures)) c.part.ensures (g.met.S.Sequence.whole c.args.seq.now));
      insertions = c.erase_row.ensures.insertions ∙ c.loop-p.invariant.insertions;
      done = subst (All (IsErasedIn u)) (sym (joined_push (g.S.Sequence.parts c.args.seq.now) c.loop-p.p c.part.result.now (omega (arith, c.loop-p-test.true, c.part_count-p-end.ensures)) c.part.ensures))
          (All-append (IsErasedIn u) (joined (take c.loop-p.p (g.S.Sequence.parts c.args.seq.now))) c.part.result.now
          (λ k d within. erased_more c.loop-p.self.set u (get_or (joined (take c.loop-p.p (g.S.Sequence.parts c.args.seq.now))) k d) c.erase_row.ensures.insertions c.erase_row.ensures.grown.grown.keeps (c.loop-p.invariant.done k d within)) c.in_ok-erase_row.ensures.ok);
      heard =
          heard_more c.args.self.now.set c.loop-p.self.set c.erase_row.new.self.set (g.L.Listener.told c.args.listener.now) (g.L.Listener.told c.loop-p.listener) (g.L.Listener.told c.erase_row.new.listener)
          (g.L.Listener.capacity c.args.listener.now) (g.L.Listener.capacity c.loop-p.listener) (g.L.Listener.capacity c.erase_row.new.listener) c.loop-p.invariant.heard c.erase_row.ensures.heard
          (stays_old c.args.self.now.set c.loop-p.self.set c.erase_row.new.self.set (shows_erased c.args.self.now.set c.loop-p.self.set c.loop-p.invariant.insertions c.loop-p.invariant.grown.grown.keeps));
    }

pub returns-clause-ok : goal.returns-clause-ok
returns-clause-ok g c =
    let seq = c.args.seq.now in
    let done = c.loop-p-test.false in
    subst (All (IsErasedIn c.loop-p.self.set)) (joined_all (g.S.Sequence.parts seq) c.loop-p.p (omega (arith, done, c.part_count-p-end.ensures)) ∙ g.met.S.Sequence.whole seq) c.loop-p.invariant.done
