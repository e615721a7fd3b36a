-- The goals of `take_waiting` that are answered by hand.
use Rattle.std.proofs.Common.{◌≡◌, [], ◌∷◌, take, get_or, sym, subst, ◌∙◌, refl, arith}
use Rattle.std.proofs.lemmas.List.{length-take}
use Rattle.std.proofs.lemmas.Result.{err_from_is_err_and}
use Rattle.std.proofs.lemmas.List.Elements.{All-more, All-nil, Contains-get_or}
use Rattle.std.specs.Prelude.{Contains}
use Rattle.bg_types.specs.OperationSet.{Holds, size}
use Rattle.desk_replica.specs.Placement.{waiting_in}
use Rattle.desk_replica.specs.Merging.{is_deletion}
use Rattle.desk_replica.proofs.Disagreeing.{waiting_at}
use Rattle.desk_replica.proofs.Growing.{all_done, desk_still, desk_then, listed_alike, listed_one, stays_of_kind, stopped_then}
use Rattle.desk_replica.proofs.Hearing.{heard_more, heard_nothing}
use Rattle.desk_replica.proofs.replica.Replica.take_waiting.Goals as goal

pub loop-j-init : goal.loop-j-init
loop-j-init g c = record {
  grown = desk_still c.args.self.now c.args.self.now (waiting_in c.args.held.now) refl;
  insertions = λ _. refl;
  shows = λ _ id h. h;
  done = All-nil (λ op. is_deletion op ≡ c.args.deletions → Holds c.args.self.now.set op);
  heard =
      (let s = c.args.self.now.set in
      let a = g.L.Listener.told c.args.listener.now in
      let k = g.L.Listener.capacity c.args.listener.now in
      heard_nothing s s a a k k c.requires.well_formed refl refl (omega arith));
}

pub take_of_kind-requires : goal.take_of_kind-requires
take_of_kind-requires g c = record { well_formed = c.loop-j.invariant.heard.tells.are_steps.well_formed }

pub returns-in_err-take_of_kind-clause-grown : goal.returns-in_err-take_of_kind-clause-grown
returns-in_err-take_of_kind-clause-grown g c =
    let w = c.args.held.now in
    let at = waiting_at w c.loop-j.j c.nth.result c.nth.ensures.listed (omega (arith, c.loop-j-test.true, c.requires.count)) in
    desk_then c.args.self.now c.loop-j.self c.take_of_kind.new.self (waiting_in w) (c.nth.result ∷ []) (waiting_in w) c.loop-j.invariant.grown c.take_of_kind.ensures.grown (listed_alike (waiting_in w))
    (listed_one c.nth.result (waiting_in w) (subst (Contains (waiting_in w)) (sym at.1) (Contains-get_or (waiting_in w) c.loop-j.j c.nth.result at.0)))

pub returns-in_err-take_of_kind-clause-insertions : goal.returns-in_err-take_of_kind-clause-insertions
returns-in_err-take_of_kind-clause-insertions g c is = c.take_of_kind.ensures.insertions is ∙ c.loop-j.invariant.insertions is

pub returns-in_err-take_of_kind-clause-shows : goal.returns-in_err-take_of_kind-clause-shows
returns-in_err-take_of_kind-clause-shows g c is id h = c.take_of_kind.ensures.shows is id (c.loop-j.invariant.shows is id h)

pub returns-in_err-take_of_kind-clause-heard : goal.returns-in_err-take_of_kind-clause-heard
returns-in_err-take_of_kind-clause-heard g c =
    heard_more c.args.self.now.set c.loop-j.self.set c.take_of_kind.new.self.set (g.L.Listener.told c.args.listener.now) (g.L.Listener.told c.loop-j.listener) (g.L.Listener.told c.take_of_kind.new.listener)
    (g.L.Listener.capacity c.args.listener.now) (g.L.Listener.capacity c.loop-j.listener) (g.L.Listener.capacity c.take_of_kind.new.listener) c.loop-j.invariant.heard c.take_of_kind.ensures.heard
    (stays_of_kind c.args.self.now.set c.loop-j.self.set c.take_of_kind.new.self.set c.args.deletions c.loop-j.invariant.grown.grown.keeps c.loop-j.invariant.insertions c.take_of_kind.ensures.shows)

pub returns-in_err-take_of_kind-clause-fault : goal.returns-in_err-take_of_kind-clause-fault
returns-in_err-take_of_kind-clause-fault g c =
    let w = c.args.held.now in
    let at = waiting_at w c.loop-j.j c.nth.result c.nth.ensures.listed (omega (arith, c.loop-j-test.true, c.requires.count)) in
    let p = err_from_is_err_and c.from_residual.result c.from_residual.ensures.1 in
    rw (p.1, p.2) (stopped_then c.args.self.now c.loop-j.self c.take_of_kind.new.self (c.nth.result ∷ []) (waiting_in w)
    (g.L.Listener.told c.args.listener.now) (g.L.Listener.told c.loop-j.listener) (g.L.Listener.told c.take_of_kind.new.listener)
    (g.L.Listener.capacity c.args.listener.now) (g.L.Listener.capacity c.loop-j.listener) (g.L.Listener.capacity c.take_of_kind.new.listener) c.in_err-take_of_kind.field-0.0
    c.loop-j.invariant.heard c.take_of_kind.ensures.heard c.in_err-take_of_kind.ensures.fault
    (listed_one c.nth.result (waiting_in w) (subst (Contains (waiting_in w)) (sym at.1) (Contains-get_or (waiting_in w) c.loop-j.j c.nth.result at.0))))

pub loop-j-preserved : goal.loop-j-preserved
loop-j-preserved g c =
    let w = c.args.held.now in
    let at = waiting_at w c.loop-j.j c.nth.result c.nth.ensures.listed (omega (arith, c.loop-j-test.true, c.requires.count)) in
    let u = c.take_of_kind.new.self.set in
    record {
      grown = desk_then c.args.self.now c.loop-j.self c.take_of_kind.new.self (waiting_in w) (c.nth.result ∷ []) (waiting_in w) c.loop-j.invariant.grown c.take_of_kind.ensures.grown (listed_alike (waiting_in w))
          (listed_one c.nth.result (waiting_in w) (subst (Contains (waiting_in w)) (sym at.1) (Contains-get_or (waiting_in w) c.loop-j.j c.nth.result at.0)));
      insertions = λ is. c.take_of_kind.ensures.insertions is ∙ c.loop-j.invariant.insertions is;
      shows = λ is id h. c.take_of_kind.ensures.shows is id (c.loop-j.invariant.shows is id h);
      done = All-more (λ op. is_deletion op ≡ c.args.deletions → Holds u op) (waiting_in w) c.loop-j.j c.nth.result at.0
          (λ k d within kind. c.take_of_kind.ensures.grown.grown.keeps (get_or (take c.loop-j.j (waiting_in w)) k d) (c.loop-j.invariant.done k d within kind)) (subst (λ op. is_deletion op ≡ c.args.deletions → Holds u op) at.1 c.in_ok-take_of_kind.ensures.ok);
      heard =
          heard_more c.args.self.now.set c.loop-j.self.set c.take_of_kind.new.self.set (g.L.Listener.told c.args.listener.now) (g.L.Listener.told c.loop-j.listener) (g.L.Listener.told c.take_of_kind.new.listener)
          (g.L.Listener.capacity c.args.listener.now) (g.L.Listener.capacity c.loop-j.listener) (g.L.Listener.capacity c.take_of_kind.new.listener) c.loop-j.invariant.heard c.take_of_kind.ensures.heard
          (stays_of_kind c.args.self.now.set c.loop-j.self.set c.take_of_kind.new.self.set c.args.deletions c.loop-j.invariant.grown.grown.keeps c.loop-j.invariant.insertions c.take_of_kind.ensures.shows);
    }

pub returns-clause-ok : goal.returns-clause-ok
returns-clause-ok g c =
    let w = c.args.held.now in
    all_done (λ op. is_deletion op ≡ c.args.deletions → Holds c.loop-j.self.set op) (waiting_in w) c.loop-j.j (let l = length-take (size w.held) w.listed in let done = c.loop-j-test.false in omega (arith, l, done, c.requires.count)) c.loop-j.invariant.done
