-- The goals of `take_part` that are answered by hand.
use Rattle.std.proofs.Common.{◌+◌, [], ◌∷◌, sym, subst, ◌∙◌, refl, arith}
use Rattle.std.proofs.lemmas.List.{take_all}
use Rattle.std.proofs.lemmas.Result.{err_from_is_err_and}
use Rattle.std.proofs.lemmas.List.Elements.{All-contains, Contains-get_or}
use Rattle.std.specs.Prelude.{All, Contains}
use Rattle.bg_types.specs.OperationSet.{Holds}
use Rattle.bg_types.specs.WellFormed.{MayFollow}
use Rattle.rga_tree.specs.Elements.{elements}
use Rattle.desk_replica.specs.Listed.{insertions_in, operations_in}
use Rattle.desk_replica.specs.Merging.{IsErasedIn}
use Rattle.desk_replica.proofs.Disagreeing.{part_contains, part_follows}
use Rattle.desk_replica.proofs.Growing.{desk_still, desk_then, element_listed, erased_with, held_next, held_passed, listed_alike, stopped_then}
use Rattle.desk_replica.proofs.Hearing.{heard_more, heard_nothing}
use Rattle.desk_replica.proofs.Tellings.{stays_shown}
use Rattle.desk_replica.proofs.replica.Replica.take_part.Goals as goal

pub loop-at-init : goal.loop-at-init
loop-at-init g c = record {
  within = c.known_in_front-at.ensures.within;
  grown = desk_still c.args.self.now c.args.self.now (operations_in (elements (g.S.Sequence.content c.args.seq.now))) refl;
  shows = λ id h. h;
  erased = c.requires.erased;
  done = c.known_in_front-at.ensures.known;
  heard =
      (let s = c.args.self.now.set in
      let a = g.L.Listener.told c.args.listener.now in
      let k = g.L.Listener.capacity c.args.listener.now in
      heard_nothing s s a a k k c.requires.well_formed refl refl (omega arith));
}

pub take_element-requires-clause-well_formed : goal.take_element-requires-clause-well_formed
take_element-requires-clause-well_formed g c = c.loop-at.invariant.heard.tells.are_steps.well_formed

pub take_element-requires-clause-follows : goal.take_element-requires-clause-follows
take_element-requires-clause-follows g c =
    let seq = c.args.seq.now in
    let row = c.part-row.result.now in
    let all = part_follows (g.S.Sequence.content seq) (g.S.Sequence.parts seq) c.args.p row (g.met.S.Sequence.well_formed seq) (g.met.S.Sequence.whole seq) c.requires.part c.part-row.ensures in
    subst (λ e. MayFollow e.parent e.id) (sym c.index-row-at.is) (all c.loop-at.at c.index-row-at.result c.loop-at-test.true)

pub take_element-requires-clause-erased : goal.take_element-requires-clause-erased
take_element-requires-clause-erased g c =
    let seq = c.args.seq.now in
    let t = g.S.Sequence.content seq in
    let e = c.index-row-at.result in
    let row = c.part-row.result.now in
    let at = part_contains (g.S.Sequence.parts seq) c.args.p row (elements t) e c.requires.part c.part-row.ensures (g.met.S.Sequence.whole seq) (subst (Contains row) (sym c.index-row-at.is) (Contains-get_or row c.loop-at.at e c.loop-at-test.true)) in
    All-contains (IsErasedIn c.loop-at.self.set) (elements t) e c.loop-at.invariant.erased at

pub returns-in_err-take_element-clause-grown : goal.returns-in_err-take_element-clause-grown
returns-in_err-take_element-clause-grown g c =
    let seq = c.args.seq.now in
    let t = g.S.Sequence.content seq in
    let e = c.index-row-at.result in
    let row = c.part-row.result.now in
    let at = part_contains (g.S.Sequence.parts seq) c.args.p row (elements t) e c.requires.part c.part-row.ensures (g.met.S.Sequence.whole seq) (subst (Contains row) (sym c.index-row-at.is) (Contains-get_or row c.loop-at.at e c.loop-at-test.true)) in
    desk_then c.args.self.now c.loop-at.self c.take_element.new.self (operations_in (elements t)) (operations_in (e ∷ [])) (operations_in (elements t)) c.loop-at.invariant.grown c.take_element.ensures.grown
    (listed_alike (operations_in (elements t))) (element_listed (elements t) e at)

pub returns-in_err-take_element-clause-erased : goal.returns-in_err-take_element-clause-erased
returns-in_err-take_element-clause-erased g c =
    let seq = c.args.seq.now in
    let t = g.S.Sequence.content seq in
    let e = c.index-row-at.result in
    let row = c.part-row.result.now in
    let at = part_contains (g.S.Sequence.parts seq) c.args.p row (elements t) e c.requires.part c.part-row.ensures (g.met.S.Sequence.whole seq) (subst (Contains row) (sym c.index-row-at.is) (Contains-get_or row c.loop-at.at e c.loop-at-test.true)) in
    erased_with t c.loop-at.self.set c.take_element.new.self.set e at c.take_element.ensures.grown.grown.keeps c.take_element.ensures.no_other c.take_element.ensures.erased c.loop-at.invariant.erased

pub returns-in_err-take_element-clause-heard : goal.returns-in_err-take_element-clause-heard
returns-in_err-take_element-clause-heard g c =
    heard_more c.args.self.now.set c.loop-at.self.set c.take_element.new.self.set (g.L.Listener.told c.args.listener.now) (g.L.Listener.told c.loop-at.listener) (g.L.Listener.told c.take_element.new.listener)
    (g.L.Listener.capacity c.args.listener.now) (g.L.Listener.capacity c.loop-at.listener) (g.L.Listener.capacity c.take_element.new.listener) c.loop-at.invariant.heard c.take_element.ensures.heard
    (stays_shown c.args.self.now.set c.loop-at.self.set c.take_element.new.self.set c.take_element.ensures.shows)

pub returns-in_err-take_element-clause-fault : goal.returns-in_err-take_element-clause-fault
returns-in_err-take_element-clause-fault g c =
    let seq = c.args.seq.now in
    let t = g.S.Sequence.content seq in
    let e = c.index-row-at.result in
    let row = c.part-row.result.now in
    let at = part_contains (g.S.Sequence.parts seq) c.args.p row (elements t) e c.requires.part c.part-row.ensures (g.met.S.Sequence.whole seq) (subst (Contains row) (sym c.index-row-at.is) (Contains-get_or row c.loop-at.at e c.loop-at-test.true)) in
    let p = err_from_is_err_and c.from_residual.result c.from_residual.ensures.1 in
    rw (p.1, p.2) (stopped_then c.args.self.now c.loop-at.self c.take_element.new.self (operations_in (e ∷ [])) (operations_in (elements t))
    (g.L.Listener.told c.args.listener.now) (g.L.Listener.told c.loop-at.listener) (g.L.Listener.told c.take_element.new.listener)
    (g.L.Listener.capacity c.args.listener.now) (g.L.Listener.capacity c.loop-at.listener) (g.L.Listener.capacity c.take_element.new.listener) c.in_err-take_element.field-0.0
    c.loop-at.invariant.heard c.take_element.ensures.heard c.in_err-take_element.ensures.fault
    (element_listed (elements t) e at))

pub loop-at-preserved : goal.loop-at-preserved
loop-at-preserved g c =
    let seq = c.args.seq.now in
    let t = g.S.Sequence.content seq in
    let e = c.index-row-at.result in
    let row = c.part-row.result.now in
    let at = part_contains (g.S.Sequence.parts seq) c.args.p row (elements t) e c.requires.part c.part-row.ensures (g.met.S.Sequence.whole seq) (subst (Contains row) (sym c.index-row-at.is) (Contains-get_or row c.loop-at.at e c.loop-at-test.true)) in
    record {
      within = omega arith;
      grown = desk_then c.args.self.now c.loop-at.self c.take_element.new.self (operations_in (elements t)) (operations_in (e ∷ [])) (operations_in (elements t)) c.loop-at.invariant.grown c.take_element.ensures.grown
          (listed_alike (operations_in (elements t))) (element_listed (elements t) e at);
      shows = λ id h. c.take_element.ensures.shows id (c.loop-at.invariant.shows id h);
      erased = erased_with t c.loop-at.self.set c.take_element.new.self.set e at c.take_element.ensures.grown.grown.keeps c.take_element.ensures.no_other c.take_element.ensures.erased c.loop-at.invariant.erased;
      done = held_next c.loop-at.self.set c.take_element.new.self.set row c.loop-at.at e c.loop-at-test.true c.index-row-at.is c.take_element.ensures.grown.grown.keeps c.loop-at.invariant.done c.in_ok-take_element.ensures.ok;
      heard =
          heard_more c.args.self.now.set c.loop-at.self.set c.take_element.new.self.set (g.L.Listener.told c.args.listener.now) (g.L.Listener.told c.loop-at.listener) (g.L.Listener.told c.take_element.new.listener)
          (g.L.Listener.capacity c.args.listener.now) (g.L.Listener.capacity c.loop-at.listener) (g.L.Listener.capacity c.take_element.new.listener) c.loop-at.invariant.heard c.take_element.ensures.heard
          (stays_shown c.args.self.now.set c.loop-at.self.set c.take_element.new.self.set c.take_element.ensures.shows);
    }

pub loop-at-preserved-then-branch : goal.loop-at-preserved-then-branch
loop-at-preserved-then-branch g c =
    let seq = c.args.seq.now in
    let t = g.S.Sequence.content seq in
    let e = c.index-row-at.result in
    let row = c.part-row.result.now in
    let at = part_contains (g.S.Sequence.parts seq) c.args.p row (elements t) e c.requires.part c.part-row.ensures (g.met.S.Sequence.whole seq) (subst (Contains row) (sym c.index-row-at.is) (Contains-get_or row c.loop-at.at e c.loop-at-test.true)) in
    record {
      within = omega (arith, c.known_behind-at.ensures.within);
      grown = desk_then c.args.self.now c.loop-at.self c.take_element.new.self (operations_in (elements t)) (operations_in (e ∷ [])) (operations_in (elements t)) c.loop-at.invariant.grown c.take_element.ensures.grown
          (listed_alike (operations_in (elements t))) (element_listed (elements t) e at);
      shows = λ id h. c.take_element.ensures.shows id (c.loop-at.invariant.shows id h);
      erased = erased_with t c.loop-at.self.set c.take_element.new.self.set e at c.take_element.ensures.grown.grown.keeps c.take_element.ensures.no_other c.take_element.ensures.erased c.loop-at.invariant.erased;
      done = held_passed c.take_element.new.self.set row (c.loop-at.at + 1) c.known_behind-at.result
          (held_next c.loop-at.self.set c.take_element.new.self.set row c.loop-at.at e c.loop-at-test.true c.index-row-at.is c.take_element.ensures.grown.grown.keeps c.loop-at.invariant.done c.in_ok-take_element.ensures.ok) c.known_behind-at.ensures.known;
      heard =
          heard_more c.args.self.now.set c.loop-at.self.set c.take_element.new.self.set (g.L.Listener.told c.args.listener.now) (g.L.Listener.told c.loop-at.listener) (g.L.Listener.told c.take_element.new.listener)
          (g.L.Listener.capacity c.args.listener.now) (g.L.Listener.capacity c.loop-at.listener) (g.L.Listener.capacity c.take_element.new.listener) c.loop-at.invariant.heard c.take_element.ensures.heard
          (stays_shown c.args.self.now.set c.loop-at.self.set c.take_element.new.self.set c.take_element.ensures.shows);
    }

pub returns-clause-ok : goal.returns-clause-ok
returns-clause-ok g c =
    let row = c.part-row.result.now in
    let done = c.loop-at-test.false in
    subst (λ r. All (Holds c.loop-at.self.set) (insertions_in r)) (take_all c.loop-at.at row (omega (arith, done)) ∙ c.part-row.ensures) c.loop-at.invariant.done
