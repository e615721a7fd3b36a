-- The goals of `erase_row` that are answered by hand.
use Rattle.std.proofs.Common.{[], ◌∷◌, take, get_or, subst, ◌∙◌, refl, arith}
use Rattle.std.proofs.lemmas.Result.{err_from_is_err_and}
use Rattle.std.proofs.lemmas.List.Elements.{All-more, All-nil}
use Rattle.desk_replica.specs.Listed.{deletions_in}
use Rattle.desk_replica.specs.Merging.{IsErasedIn}
use Rattle.desk_replica.proofs.Growing.{all_done, desk_still, desk_then, erased_more, listed_alike, one_listed, shows_erased, stopped_then}
use Rattle.desk_replica.proofs.Hearing.{heard_more, heard_nothing}
use Rattle.desk_replica.proofs.Rows.{deletions-append}
use Rattle.desk_replica.proofs.Tellings.{stays_old}
use Rattle.desk_replica.proofs.replica.Replica.erase_row.Goals as goal

pub loop-e-init : goal.loop-e-init
loop-e-init g c = record {
  grown = desk_still c.args.self.now c.args.self.now (deletions_in c.args.row.now) refl;
  insertions = refl;
  done = All-nil (IsErasedIn c.args.self.now.set);
  heard =
      (let s = c.args.self.now.set in
      let a = g.L.Listener.told c.args.listener.now in
      let k = g.L.Listener.capacity c.args.listener.now in
      heard_nothing s s a a k k c.requires.well_formed refl refl (omega arith));
}

pub erase_element-requires : goal.erase_element-requires
erase_element-requires g c = record { well_formed = c.loop-e.invariant.heard.tells.are_steps.well_formed }

pub returns-in_err-erase_element-clause-grown : goal.returns-in_err-erase_element-clause-grown
returns-in_err-erase_element-clause-grown g c =
    desk_then c.args.self.now c.loop-e.self c.erase_element.new.self (deletions_in c.args.row.now) (deletions_in (c.e-item.result ∷ [])) (deletions_in c.args.row.now) c.loop-e.invariant.grown c.erase_element.ensures.grown
    (listed_alike (deletions_in c.args.row.now)) (one_listed deletions_in deletions-append c.args.row.now c.loop-e.e-index c.e-item.result c.loop-e-test.true c.e-item.is)

pub returns-in_err-erase_element-clause-heard : goal.returns-in_err-erase_element-clause-heard
returns-in_err-erase_element-clause-heard g c =
    heard_more c.args.self.now.set c.loop-e.self.set c.erase_element.new.self.set (g.L.Listener.told c.args.listener.now) (g.L.Listener.told c.loop-e.listener) (g.L.Listener.told c.erase_element.new.listener)
    (g.L.Listener.capacity c.args.listener.now) (g.L.Listener.capacity c.loop-e.listener) (g.L.Listener.capacity c.erase_element.new.listener) c.loop-e.invariant.heard c.erase_element.ensures.heard
    (stays_old c.args.self.now.set c.loop-e.self.set c.erase_element.new.self.set (shows_erased c.args.self.now.set c.loop-e.self.set c.loop-e.invariant.insertions c.loop-e.invariant.grown.grown.keeps))

pub returns-in_err-erase_element-clause-fault : goal.returns-in_err-erase_element-clause-fault
returns-in_err-erase_element-clause-fault g c =
    let p = err_from_is_err_and c.from_residual.result c.from_residual.ensures.1 in
    rw (p.1, p.2) (stopped_then c.args.self.now c.loop-e.self c.erase_element.new.self (deletions_in (c.e-item.result ∷ [])) (deletions_in c.args.row.now)
    (g.L.Listener.told c.args.listener.now) (g.L.Listener.told c.loop-e.listener) (g.L.Listener.told c.erase_element.new.listener)
    (g.L.Listener.capacity c.args.listener.now) (g.L.Listener.capacity c.loop-e.listener) (g.L.Listener.capacity c.erase_element.new.listener) c.in_err-erase_element.field-0.0
    c.loop-e.invariant.heard c.erase_element.ensures.heard c.in_err-erase_element.ensures.fault
    (one_listed deletions_in deletions-append c.args.row.now c.loop-e.e-index c.e-item.result c.loop-e-test.true c.e-item.is))

pub loop-e-preserved : goal.loop-e-preserved
loop-e-preserved g c =
    let u = c.erase_element.new.self.set in
    record {
      grown = desk_then c.args.self.now c.loop-e.self c.erase_element.new.self (deletions_in c.args.row.now) (deletions_in (c.e-item.result ∷ [])) (deletions_in c.args.row.now) c.loop-e.invariant.grown c.erase_element.ensures.grown
          (listed_alike (deletions_in c.args.row.now)) (one_listed deletions_in deletions-append c.args.row.now c.loop-e.e-index c.e-item.result c.loop-e-test.true c.e-item.is);
      insertions = c.erase_element.ensures.insertions ∙ c.loop-e.invariant.insertions;
      done = All-more (IsErasedIn u) c.args.row.now c.loop-e.e-index c.e-item.result c.loop-e-test.true
          (λ k d within. erased_more c.loop-e.self.set u (get_or (take c.loop-e.e-index c.args.row.now) k d) c.erase_element.ensures.insertions c.erase_element.ensures.grown.grown.keeps (c.loop-e.invariant.done k d within))
          (subst (IsErasedIn u) c.e-item.is c.in_ok-erase_element.ensures.ok);
      heard =
          heard_more c.args.self.now.set c.loop-e.self.set c.erase_element.new.self.set (g.L.Listener.told c.args.listener.now) (g.L.Listener.told c.loop-e.listener) (g.L.Listener.told c.erase_element.new.listener)
          (g.L.Listener.capacity c.args.listener.now) (g.L.Listener.capacity c.loop-e.listener) (g.L.Listener.capacity c.erase_element.new.listener) c.loop-e.invariant.heard c.erase_element.ensures.heard
          (stays_old c.args.self.now.set c.loop-e.self.set c.erase_element.new.self.set (shows_erased c.args.self.now.set c.loop-e.self.set c.loop-e.invariant.insertions c.loop-e.invariant.grown.grown.keeps));
    }

pub returns-clause-ok : goal.returns-clause-ok
returns-clause-ok g c = all_done (IsErasedIn c.loop-e.self.set) c.args.row.now c.loop-e.e-index (let done = c.loop-e-test.false in omega (arith, done)) c.loop-e.invariant.done
