-- The goals of `take_from` that are answered by hand.
use Rattle.std.proofs.Common.{refl}
use Rattle.std.proofs.lemmas.Result.{err_from_is_err_and, on_ok_weaker, IfErr-weaker}
use Rattle.rga_tree.specs.Elements.{elements}
use Rattle.desk_replica.specs.Placement.{waiting_in}
use Rattle.desk_replica.specs.Listed.{listed, deletions_in, operations_in}
use Rattle.desk_replica.proofs.Listed.{listed_once}
use Rattle.desk_replica.proofs.Growing.{desk_listed, desk_then, listed_alike, shows_erased, stopped_listed, stopped_then}
use Rattle.desk_replica.proofs.Hearing.{heard_more}
use Rattle.desk_replica.proofs.Tellings.{stays_old, stays_shown}
use Rattle.desk_replica.proofs.Together.{all_still, all_told, both_kinds, deletions_listed, elements_listed, waiting_listed}
use Rattle.desk_replica.proofs.replica.Replica.take_from.Goals as goal

pub take_waiting-requires-clause-well_formed : goal.take_waiting-requires-clause-well_formed
take_waiting-requires-clause-well_formed g c = c.requires.well_formed

pub erase_elements-requires : goal.erase_elements-requires
erase_elements-requires g c = record { well_formed = c.take_waiting.ensures.heard.tells.are_steps.well_formed }

pub take_elements-requires-clause-well_formed : goal.take_elements-requires-clause-well_formed
take_elements-requires-clause-well_formed g c = c.erase_elements.ensures.heard.tells.are_steps.well_formed

pub take_waiting-requires-2-clause-well_formed : goal.take_waiting-requires-2-clause-well_formed
take_waiting-requires-2-clause-well_formed g c = c.take_elements.ensures.heard.tells.are_steps.well_formed

pub returns-in_err-take_waiting-clause-grown : goal.returns-in_err-take_waiting-clause-grown
returns-in_err-take_waiting-clause-grown g c =
    let els = elements (g.S.Sequence.content c.other.inside.seq) in
    desk_listed c.args.self.now c.take_waiting.new.self (waiting_in c.other.inside.held) (listed c.args.other.now) c.take_waiting.ensures.grown (waiting_listed (g.S.Sequence.content c.other.inside.seq) c.other.inside.held c.other.inside.site c.other.inside.spare c.args.other.now (record { well = g.met.S.Sequence.well_formed c.other.inside.seq; tree = g.met.S.Sequence.is_tree c.other.inside.seq; only = g.met.S.Sequence.only_placed c.other.inside.seq }) c.other.invariant.settled c.other.view_is)

pub returns-in_err-take_waiting-clause-fault : goal.returns-in_err-take_waiting-clause-fault
returns-in_err-take_waiting-clause-fault g c =
    let els = elements (g.S.Sequence.content c.other.inside.seq) in
    let p = err_from_is_err_and c.from_residual.result c.from_residual.ensures.1 in
    rw (p.1, p.2) (stopped_listed c.take_waiting.new.self (waiting_in c.other.inside.held) (listed c.args.other.now) (g.L.Listener.told c.args.listener.now) (g.L.Listener.told c.take_waiting.new.listener) (g.L.Listener.capacity c.args.listener.now) c.in_err-take_waiting.field-0.0 c.in_err-take_waiting.ensures.fault (waiting_listed (g.S.Sequence.content c.other.inside.seq) c.other.inside.held c.other.inside.site c.other.inside.spare c.args.other.now (record { well = g.met.S.Sequence.well_formed c.other.inside.seq; tree = g.met.S.Sequence.is_tree c.other.inside.seq; only = g.met.S.Sequence.only_placed c.other.inside.seq }) c.other.invariant.settled c.other.view_is))

pub returns-in_err-take_waiting-clause-all : goal.returns-in_err-take_waiting-clause-all
returns-in_err-take_waiting-clause-all g c = listed_once (g.S.Sequence.content c.other.inside.seq) c.other.inside.held c.other.inside.site c.other.inside.spare c.args.other.now (record { well = g.met.S.Sequence.well_formed c.other.inside.seq; tree = g.met.S.Sequence.is_tree c.other.inside.seq; only = g.met.S.Sequence.only_placed c.other.inside.seq }) c.other.invariant.settled c.other.view_is c.count_waiting-waiting.ensures.each_once

pub returns-in_err-erase_elements-clause-grown : goal.returns-in_err-erase_elements-clause-grown
returns-in_err-erase_elements-clause-grown g c =
    let els = elements (g.S.Sequence.content c.other.inside.seq) in
    desk_then c.args.self.now c.take_waiting.new.self c.erase_elements.new.self (listed c.args.other.now) (deletions_in els) (listed c.args.other.now)
    (desk_listed c.args.self.now c.take_waiting.new.self (waiting_in c.other.inside.held) (listed c.args.other.now) c.take_waiting.ensures.grown (waiting_listed (g.S.Sequence.content c.other.inside.seq) c.other.inside.held c.other.inside.site c.other.inside.spare c.args.other.now (record { well = g.met.S.Sequence.well_formed c.other.inside.seq; tree = g.met.S.Sequence.is_tree c.other.inside.seq; only = g.met.S.Sequence.only_placed c.other.inside.seq }) c.other.invariant.settled c.other.view_is)) c.erase_elements.ensures.grown (listed_alike (listed c.args.other.now))
    (deletions_listed (g.S.Sequence.content c.other.inside.seq) c.other.inside.held c.other.inside.site c.other.inside.spare c.args.other.now (record { well = g.met.S.Sequence.well_formed c.other.inside.seq; tree = g.met.S.Sequence.is_tree c.other.inside.seq; only = g.met.S.Sequence.only_placed c.other.inside.seq }) c.other.invariant.settled c.other.view_is)

pub returns-in_err-erase_elements-clause-fault : goal.returns-in_err-erase_elements-clause-fault
returns-in_err-erase_elements-clause-fault g c =
    let els = elements (g.S.Sequence.content c.other.inside.seq) in
    let p = err_from_is_err_and c.from_residual-in_err-erase_elements.result c.from_residual-in_err-erase_elements.ensures.1 in
    rw (p.1, p.2) (stopped_then c.args.self.now c.take_waiting.new.self c.erase_elements.new.self (deletions_in els) (listed c.args.other.now) (g.L.Listener.told c.args.listener.now) (g.L.Listener.told c.take_waiting.new.listener) (g.L.Listener.told c.erase_elements.new.listener) (g.L.Listener.capacity c.args.listener.now) (g.L.Listener.capacity c.take_waiting.new.listener) (g.L.Listener.capacity c.erase_elements.new.listener) c.in_err-erase_elements.field-0.0
    (c.take_waiting.ensures.heard)
    c.erase_elements.ensures.heard c.in_err-erase_elements.ensures.fault
    (deletions_listed (g.S.Sequence.content c.other.inside.seq) c.other.inside.held c.other.inside.site c.other.inside.spare c.args.other.now (record { well = g.met.S.Sequence.well_formed c.other.inside.seq; tree = g.met.S.Sequence.is_tree c.other.inside.seq; only = g.met.S.Sequence.only_placed c.other.inside.seq }) c.other.invariant.settled c.other.view_is))

pub returns-in_err-erase_elements-clause-all : goal.returns-in_err-erase_elements-clause-all
returns-in_err-erase_elements-clause-all g c = listed_once (g.S.Sequence.content c.other.inside.seq) c.other.inside.held c.other.inside.site c.other.inside.spare c.args.other.now (record { well = g.met.S.Sequence.well_formed c.other.inside.seq; tree = g.met.S.Sequence.is_tree c.other.inside.seq; only = g.met.S.Sequence.only_placed c.other.inside.seq }) c.other.invariant.settled c.other.view_is c.count_waiting-waiting.ensures.each_once

pub returns-in_err-erase_elements-clause-heard : goal.returns-in_err-erase_elements-clause-heard
returns-in_err-erase_elements-clause-heard g c =
    heard_more c.args.self.now.set c.take_waiting.new.self.set c.erase_elements.new.self.set (g.L.Listener.told c.args.listener.now) (g.L.Listener.told c.take_waiting.new.listener) (g.L.Listener.told c.erase_elements.new.listener) (g.L.Listener.capacity c.args.listener.now) (g.L.Listener.capacity c.take_waiting.new.listener) (g.L.Listener.capacity c.erase_elements.new.listener)
    (c.take_waiting.ensures.heard) c.erase_elements.ensures.heard
    (stays_old c.args.self.now.set c.take_waiting.new.self.set c.erase_elements.new.self.set (shows_erased c.args.self.now.set c.take_waiting.new.self.set (c.take_waiting.ensures.insertions refl) c.take_waiting.ensures.grown.grown.keeps))

pub returns-in_err-take_elements-clause-grown : goal.returns-in_err-take_elements-clause-grown
returns-in_err-take_elements-clause-grown g c =
    let els = elements (g.S.Sequence.content c.other.inside.seq) in
    desk_then c.args.self.now c.erase_elements.new.self c.take_elements.new.self (listed c.args.other.now) (operations_in els) (listed c.args.other.now)
    (desk_then c.args.self.now c.take_waiting.new.self c.erase_elements.new.self (listed c.args.other.now) (deletions_in els) (listed c.args.other.now)
    (desk_listed c.args.self.now c.take_waiting.new.self (waiting_in c.other.inside.held) (listed c.args.other.now) c.take_waiting.ensures.grown (waiting_listed (g.S.Sequence.content c.other.inside.seq) c.other.inside.held c.other.inside.site c.other.inside.spare c.args.other.now (record { well = g.met.S.Sequence.well_formed c.other.inside.seq; tree = g.met.S.Sequence.is_tree c.other.inside.seq; only = g.met.S.Sequence.only_placed c.other.inside.seq }) c.other.invariant.settled c.other.view_is)) c.erase_elements.ensures.grown (listed_alike (listed c.args.other.now))
    (deletions_listed (g.S.Sequence.content c.other.inside.seq) c.other.inside.held c.other.inside.site c.other.inside.spare c.args.other.now (record { well = g.met.S.Sequence.well_formed c.other.inside.seq; tree = g.met.S.Sequence.is_tree c.other.inside.seq; only = g.met.S.Sequence.only_placed c.other.inside.seq }) c.other.invariant.settled c.other.view_is)) c.take_elements.ensures.grown (listed_alike (listed c.args.other.now))
    (elements_listed (g.S.Sequence.content c.other.inside.seq) c.other.inside.held c.other.inside.site c.other.inside.spare c.args.other.now (record { well = g.met.S.Sequence.well_formed c.other.inside.seq; tree = g.met.S.Sequence.is_tree c.other.inside.seq; only = g.met.S.Sequence.only_placed c.other.inside.seq }) c.other.invariant.settled c.other.view_is)

pub returns-in_err-take_elements-clause-fault : goal.returns-in_err-take_elements-clause-fault
returns-in_err-take_elements-clause-fault g c =
    let els = elements (g.S.Sequence.content c.other.inside.seq) in
    let p = err_from_is_err_and c.from_residual-in_err-take_elements.result c.from_residual-in_err-take_elements.ensures.1 in
    rw (p.1, p.2) (stopped_then c.args.self.now c.erase_elements.new.self c.take_elements.new.self (operations_in els) (listed c.args.other.now) (g.L.Listener.told c.args.listener.now) (g.L.Listener.told c.erase_elements.new.listener) (g.L.Listener.told c.take_elements.new.listener) (g.L.Listener.capacity c.args.listener.now) (g.L.Listener.capacity c.erase_elements.new.listener) (g.L.Listener.capacity c.take_elements.new.listener) c.in_err-take_elements.field-0.0
    (heard_more c.args.self.now.set c.take_waiting.new.self.set c.erase_elements.new.self.set (g.L.Listener.told c.args.listener.now) (g.L.Listener.told c.take_waiting.new.listener) (g.L.Listener.told c.erase_elements.new.listener) (g.L.Listener.capacity c.args.listener.now) (g.L.Listener.capacity c.take_waiting.new.listener) (g.L.Listener.capacity c.erase_elements.new.listener)
    (c.take_waiting.ensures.heard) c.erase_elements.ensures.heard
    (stays_old c.args.self.now.set c.take_waiting.new.self.set c.erase_elements.new.self.set (shows_erased c.args.self.now.set c.take_waiting.new.self.set (c.take_waiting.ensures.insertions refl) c.take_waiting.ensures.grown.grown.keeps)))
    c.take_elements.ensures.heard c.in_err-take_elements.ensures.fault
    (elements_listed (g.S.Sequence.content c.other.inside.seq) c.other.inside.held c.other.inside.site c.other.inside.spare c.args.other.now (record { well = g.met.S.Sequence.well_formed c.other.inside.seq; tree = g.met.S.Sequence.is_tree c.other.inside.seq; only = g.met.S.Sequence.only_placed c.other.inside.seq }) c.other.invariant.settled c.other.view_is))

pub returns-in_err-take_elements-clause-all : goal.returns-in_err-take_elements-clause-all
returns-in_err-take_elements-clause-all g c = listed_once (g.S.Sequence.content c.other.inside.seq) c.other.inside.held c.other.inside.site c.other.inside.spare c.args.other.now (record { well = g.met.S.Sequence.well_formed c.other.inside.seq; tree = g.met.S.Sequence.is_tree c.other.inside.seq; only = g.met.S.Sequence.only_placed c.other.inside.seq }) c.other.invariant.settled c.other.view_is c.count_waiting-waiting.ensures.each_once

pub returns-in_err-take_elements-clause-heard : goal.returns-in_err-take_elements-clause-heard
returns-in_err-take_elements-clause-heard g c =
    heard_more c.args.self.now.set c.erase_elements.new.self.set c.take_elements.new.self.set (g.L.Listener.told c.args.listener.now) (g.L.Listener.told c.erase_elements.new.listener) (g.L.Listener.told c.take_elements.new.listener) (g.L.Listener.capacity c.args.listener.now) (g.L.Listener.capacity c.erase_elements.new.listener) (g.L.Listener.capacity c.take_elements.new.listener)
    (heard_more c.args.self.now.set c.take_waiting.new.self.set c.erase_elements.new.self.set (g.L.Listener.told c.args.listener.now) (g.L.Listener.told c.take_waiting.new.listener) (g.L.Listener.told c.erase_elements.new.listener) (g.L.Listener.capacity c.args.listener.now) (g.L.Listener.capacity c.take_waiting.new.listener) (g.L.Listener.capacity c.erase_elements.new.listener)
    (c.take_waiting.ensures.heard) c.erase_elements.ensures.heard
    (stays_old c.args.self.now.set c.take_waiting.new.self.set c.erase_elements.new.self.set (shows_erased c.args.self.now.set c.take_waiting.new.self.set (c.take_waiting.ensures.insertions refl) c.take_waiting.ensures.grown.grown.keeps))) c.take_elements.ensures.heard
    (stays_shown c.args.self.now.set c.erase_elements.new.self.set c.take_elements.new.self.set c.take_elements.ensures.shows)

pub returns-clause-grown : goal.returns-clause-grown
returns-clause-grown g c =
    let els = elements (g.S.Sequence.content c.other.inside.seq) in
    desk_then c.args.self.now c.take_elements.new.self c.take_waiting-2.new.self (listed c.args.other.now) (waiting_in c.other.inside.held) (listed c.args.other.now)
    (desk_then c.args.self.now c.erase_elements.new.self c.take_elements.new.self (listed c.args.other.now) (operations_in els) (listed c.args.other.now)
    (desk_then c.args.self.now c.take_waiting.new.self c.erase_elements.new.self (listed c.args.other.now) (deletions_in els) (listed c.args.other.now)
    (desk_listed c.args.self.now c.take_waiting.new.self (waiting_in c.other.inside.held) (listed c.args.other.now) c.take_waiting.ensures.grown (waiting_listed (g.S.Sequence.content c.other.inside.seq) c.other.inside.held c.other.inside.site c.other.inside.spare c.args.other.now (record { well = g.met.S.Sequence.well_formed c.other.inside.seq; tree = g.met.S.Sequence.is_tree c.other.inside.seq; only = g.met.S.Sequence.only_placed c.other.inside.seq }) c.other.invariant.settled c.other.view_is)) c.erase_elements.ensures.grown (listed_alike (listed c.args.other.now))
    (deletions_listed (g.S.Sequence.content c.other.inside.seq) c.other.inside.held c.other.inside.site c.other.inside.spare c.args.other.now (record { well = g.met.S.Sequence.well_formed c.other.inside.seq; tree = g.met.S.Sequence.is_tree c.other.inside.seq; only = g.met.S.Sequence.only_placed c.other.inside.seq }) c.other.invariant.settled c.other.view_is)) c.take_elements.ensures.grown (listed_alike (listed c.args.other.now))
    (elements_listed (g.S.Sequence.content c.other.inside.seq) c.other.inside.held c.other.inside.site c.other.inside.spare c.args.other.now (record { well = g.met.S.Sequence.well_formed c.other.inside.seq; tree = g.met.S.Sequence.is_tree c.other.inside.seq; only = g.met.S.Sequence.only_placed c.other.inside.seq }) c.other.invariant.settled c.other.view_is)) c.take_waiting-2.ensures.grown (listed_alike (listed c.args.other.now))
    (waiting_listed (g.S.Sequence.content c.other.inside.seq) c.other.inside.held c.other.inside.site c.other.inside.spare c.args.other.now (record { well = g.met.S.Sequence.well_formed c.other.inside.seq; tree = g.met.S.Sequence.is_tree c.other.inside.seq; only = g.met.S.Sequence.only_placed c.other.inside.seq }) c.other.invariant.settled c.other.view_is)

pub returns-clause-fault : goal.returns-clause-fault
returns-clause-fault g c =
    let els = elements (g.S.Sequence.content c.other.inside.seq) in
    IfErr-weaker c.take_waiting-2.result _ _ (λ fault h. stopped_then c.args.self.now c.take_elements.new.self c.take_waiting-2.new.self (waiting_in c.other.inside.held) (listed c.args.other.now) (g.L.Listener.told c.args.listener.now) (g.L.Listener.told c.take_elements.new.listener) (g.L.Listener.told c.take_waiting-2.new.listener) (g.L.Listener.capacity c.args.listener.now) (g.L.Listener.capacity c.take_elements.new.listener) (g.L.Listener.capacity c.take_waiting-2.new.listener) fault
    (heard_more c.args.self.now.set c.erase_elements.new.self.set c.take_elements.new.self.set (g.L.Listener.told c.args.listener.now) (g.L.Listener.told c.erase_elements.new.listener) (g.L.Listener.told c.take_elements.new.listener) (g.L.Listener.capacity c.args.listener.now) (g.L.Listener.capacity c.erase_elements.new.listener) (g.L.Listener.capacity c.take_elements.new.listener)
    (heard_more c.args.self.now.set c.take_waiting.new.self.set c.erase_elements.new.self.set (g.L.Listener.told c.args.listener.now) (g.L.Listener.told c.take_waiting.new.listener) (g.L.Listener.told c.erase_elements.new.listener) (g.L.Listener.capacity c.args.listener.now) (g.L.Listener.capacity c.take_waiting.new.listener) (g.L.Listener.capacity c.erase_elements.new.listener)
    (c.take_waiting.ensures.heard) c.erase_elements.ensures.heard
    (stays_old c.args.self.now.set c.take_waiting.new.self.set c.erase_elements.new.self.set (shows_erased c.args.self.now.set c.take_waiting.new.self.set (c.take_waiting.ensures.insertions refl) c.take_waiting.ensures.grown.grown.keeps))) c.take_elements.ensures.heard
    (stays_shown c.args.self.now.set c.erase_elements.new.self.set c.take_elements.new.self.set c.take_elements.ensures.shows))
    c.take_waiting-2.ensures.heard h
    (waiting_listed (g.S.Sequence.content c.other.inside.seq) c.other.inside.held c.other.inside.site c.other.inside.spare c.args.other.now (record { well = g.met.S.Sequence.well_formed c.other.inside.seq; tree = g.met.S.Sequence.is_tree c.other.inside.seq; only = g.met.S.Sequence.only_placed c.other.inside.seq }) c.other.invariant.settled c.other.view_is)) c.take_waiting-2.ensures.fault

pub returns-clause-all : goal.returns-clause-all
returns-clause-all g c = listed_once (g.S.Sequence.content c.other.inside.seq) c.other.inside.held c.other.inside.site c.other.inside.spare c.args.other.now (record { well = g.met.S.Sequence.well_formed c.other.inside.seq; tree = g.met.S.Sequence.is_tree c.other.inside.seq; only = g.met.S.Sequence.only_placed c.other.inside.seq }) c.other.invariant.settled c.other.view_is c.count_waiting-waiting.ensures.each_once

pub returns-clause-heard : goal.returns-clause-heard
returns-clause-heard g c =
    heard_more c.args.self.now.set c.take_elements.new.self.set c.take_waiting-2.new.self.set (g.L.Listener.told c.args.listener.now) (g.L.Listener.told c.take_elements.new.listener) (g.L.Listener.told c.take_waiting-2.new.listener) (g.L.Listener.capacity c.args.listener.now) (g.L.Listener.capacity c.take_elements.new.listener) (g.L.Listener.capacity c.take_waiting-2.new.listener)
    (heard_more c.args.self.now.set c.erase_elements.new.self.set c.take_elements.new.self.set (g.L.Listener.told c.args.listener.now) (g.L.Listener.told c.erase_elements.new.listener) (g.L.Listener.told c.take_elements.new.listener) (g.L.Listener.capacity c.args.listener.now) (g.L.Listener.capacity c.erase_elements.new.listener) (g.L.Listener.capacity c.take_elements.new.listener)
    (heard_more c.args.self.now.set c.take_waiting.new.self.set c.erase_elements.new.self.set (g.L.Listener.told c.args.listener.now) (g.L.Listener.told c.take_waiting.new.listener) (g.L.Listener.told c.erase_elements.new.listener) (g.L.Listener.capacity c.args.listener.now) (g.L.Listener.capacity c.take_waiting.new.listener) (g.L.Listener.capacity c.erase_elements.new.listener)
    (c.take_waiting.ensures.heard) c.erase_elements.ensures.heard
    (stays_old c.args.self.now.set c.take_waiting.new.self.set c.erase_elements.new.self.set (shows_erased c.args.self.now.set c.take_waiting.new.self.set (c.take_waiting.ensures.insertions refl) c.take_waiting.ensures.grown.grown.keeps))) c.take_elements.ensures.heard
    (stays_shown c.args.self.now.set c.erase_elements.new.self.set c.take_elements.new.self.set c.take_elements.ensures.shows)) c.take_waiting-2.ensures.heard
    (stays_shown c.args.self.now.set c.take_elements.new.self.set c.take_waiting-2.new.self.set (c.take_waiting-2.ensures.shows refl))

pub returns-clause-ok : goal.returns-clause-ok
returns-clause-ok g c =
    let els = elements (g.S.Sequence.content c.other.inside.seq) in
    let waiting = waiting_in c.other.inside.held in
    let u = c.take_waiting-2.new.self.set in
    let late = c.take_waiting-2.ensures.grown.grown.keeps in
    on_ok_weaker c.take_waiting-2.result (λ insertions. all_told (g.S.Sequence.content c.other.inside.seq) c.other.inside.held c.other.inside.site c.other.inside.spare c.args.other.now (record { well = g.met.S.Sequence.well_formed c.other.inside.seq; tree = g.met.S.Sequence.is_tree c.other.inside.seq; only = g.met.S.Sequence.only_placed c.other.inside.seq }) c.other.invariant.settled c.other.view_is u (all_still c.take_elements.new.self.set u (operations_in els) late c.in_ok-take_elements.ensures.ok)
    (both_kinds c.take_waiting.new.self.set u waiting (λ op h. late op (c.take_elements.ensures.grown.grown.keeps op (c.erase_elements.ensures.grown.grown.keeps op h))) c.in_ok-take_waiting.ensures.ok insertions)) c.take_waiting-2.ensures.ok
