-- The goals of `op_at` that are answered by hand.
use Rattle.std.proofs.Common.{◌-◌, Some, sym, ap, ◌∙◌, arith}
use Rattle.bg_types.specs.declared.op.OpView.{OpView}
use Rattle.desk_replica.proofs.Listed.{listed_once, reached, listed_insertion, listed_deletion, listed_late, size_is}
use Rattle.desk_replica.proofs.ElementPlaces.{follows_parent}
use Rattle.desk_replica.proofs.replica.Replica.op_at.Goals as goal

pub overflow_sub-reached : goal.overflow_sub-reached
overflow_sub-reached g c =
    let n = reached (g.S.Sequence.content c.self.inside.seq) c.self.inside.held c.self.inside.site c.self.inside.spare c.args.self.now (record { well = g.met.S.Sequence.well_formed c.self.inside.seq; tree = g.met.S.Sequence.is_tree c.self.inside.seq; only = g.met.S.Sequence.only_placed c.self.inside.seq }) c.self.invariant.settled c.self.view_is c.count_waiting.ensures.each_once in
    let k = c.self.invariant.counted.kept_is in
    let m = c.count_waiting.ensures.count in
    omega (arith, n, k, m)

pub nth-requires : goal.nth-requires
nth-requires g c =
    let n = reached (g.S.Sequence.content c.self.inside.seq) c.self.inside.held c.self.inside.site c.self.inside.spare c.args.self.now (record { well = g.met.S.Sequence.well_formed c.self.inside.seq; tree = g.met.S.Sequence.is_tree c.self.inside.seq; only = g.met.S.Sequence.only_placed c.self.inside.seq }) c.self.invariant.settled c.self.view_is c.count_waiting.ensures.each_once in
    let k = c.self.invariant.counted.kept_is in
    let m = c.count_waiting.ensures.count in
    let z = size_is (g.S.Sequence.content c.self.inside.seq) c.self.inside.held c.self.inside.site c.self.inside.spare c.args.self.now (record { well = g.met.S.Sequence.well_formed c.self.inside.seq; tree = g.met.S.Sequence.is_tree c.self.inside.seq; only = g.met.S.Sequence.only_placed c.self.inside.seq }) c.self.invariant.settled c.self.view_is in
    let q = c.requires in
    omega (arith, n, k, m, z, q, c.if-j-reached.true)

pub returns-then-j-reached-clause-listed : goal.returns-then-j-reached-clause-listed
returns-then-j-reached-clause-listed g c =
    let n = reached (g.S.Sequence.content c.self.inside.seq) c.self.inside.held c.self.inside.site c.self.inside.spare c.args.self.now (record { well = g.met.S.Sequence.well_formed c.self.inside.seq; tree = g.met.S.Sequence.is_tree c.self.inside.seq; only = g.met.S.Sequence.only_placed c.self.inside.seq }) c.self.invariant.settled c.self.view_is c.count_waiting.ensures.each_once in
    let k = c.self.invariant.counted.kept_is in
    let m = c.count_waiting.ensures.count in
    let z = size_is (g.S.Sequence.content c.self.inside.seq) c.self.inside.held c.self.inside.site c.self.inside.spare c.args.self.now (record { well = g.met.S.Sequence.well_formed c.self.inside.seq; tree = g.met.S.Sequence.is_tree c.self.inside.seq; only = g.met.S.Sequence.only_placed c.self.inside.seq }) c.self.invariant.settled c.self.view_is in
    let q = c.requires in
    let past = c.if-j-reached.true in
    listed_late (g.S.Sequence.content c.self.inside.seq) c.self.inside.held c.self.inside.site c.self.inside.spare c.args.self.now (record { well = g.met.S.Sequence.well_formed c.self.inside.seq; tree = g.met.S.Sequence.is_tree c.self.inside.seq; only = g.met.S.Sequence.only_placed c.self.inside.seq }) c.self.invariant.settled c.self.view_is c.args.j (c.args.j - (c.self.inside.kept - c.count_waiting.result)) c.nth.result c.nth.ensures.listed (omega (arith, n, k, m, z, q, past)) (omega (arith, n, k, m, past))

pub returns-then-j-reached-clause-each_once : goal.returns-then-j-reached-clause-each_once
returns-then-j-reached-clause-each_once g c =
    listed_once (g.S.Sequence.content c.self.inside.seq) c.self.inside.held c.self.inside.site c.self.inside.spare c.args.self.now (record { well = g.met.S.Sequence.well_formed c.self.inside.seq; tree = g.met.S.Sequence.is_tree c.self.inside.seq; only = g.met.S.Sequence.only_placed c.self.inside.seq }) c.self.invariant.settled c.self.view_is c.count_waiting.ensures.each_once

pub returns-then-j-placed-clause-each_once : goal.returns-then-j-placed-clause-each_once
returns-then-j-placed-clause-each_once g c =
    listed_once (g.S.Sequence.content c.self.inside.seq) c.self.inside.held c.self.inside.site c.self.inside.spare c.args.self.now (record { well = g.met.S.Sequence.well_formed c.self.inside.seq; tree = g.met.S.Sequence.is_tree c.self.inside.seq; only = g.met.S.Sequence.only_placed c.self.inside.seq }) c.self.invariant.settled c.self.view_is c.count_waiting.ensures.each_once

pub returns-clause-each_once : goal.returns-clause-each_once
returns-clause-each_once g c =
    listed_once (g.S.Sequence.content c.self.inside.seq) c.self.inside.held c.self.inside.site c.self.inside.spare c.args.self.now (record { well = g.met.S.Sequence.well_formed c.self.inside.seq; tree = g.met.S.Sequence.is_tree c.self.inside.seq; only = g.met.S.Sequence.only_placed c.self.inside.seq }) c.self.invariant.settled c.self.view_is c.count_waiting.ensures.each_once

pub insertion_of-requires : goal.insertion_of-requires
insertion_of-requires g c =
    follows_parent (g.S.Sequence.content c.self.inside.seq) c.args.j c.nth-then-j-placed.result (g.met.S.Sequence.well_formed c.self.inside.seq) c.nth-then-j-placed.ensures

pub returns-then-j-placed-clause-listed : goal.returns-then-j-placed-clause-listed
returns-then-j-placed-clause-listed g c =
    listed_insertion (g.S.Sequence.content c.self.inside.seq) c.self.inside.held c.self.inside.site c.self.inside.spare c.args.self.now (record { well = g.met.S.Sequence.well_formed c.self.inside.seq; tree = g.met.S.Sequence.is_tree c.self.inside.seq; only = g.met.S.Sequence.only_placed c.self.inside.seq }) c.self.invariant.settled c.self.view_is c.args.j c.nth-then-j-placed.result c.nth-then-j-placed.ensures ∙ ap (λ (o : OpView). Some o) (sym c.insertion_of.ensures)

pub hidden_at-requires : goal.hidden_at-requires
hidden_at-requires g c =
    let n = reached (g.S.Sequence.content c.self.inside.seq) c.self.inside.held c.self.inside.site c.self.inside.spare c.args.self.now (record { well = g.met.S.Sequence.well_formed c.self.inside.seq; tree = g.met.S.Sequence.is_tree c.self.inside.seq; only = g.met.S.Sequence.only_placed c.self.inside.seq }) c.self.invariant.settled c.self.view_is c.count_waiting.ensures.each_once in
    let k = c.self.invariant.counted.kept_is in
    let m = c.count_waiting.ensures.count in
    let at = c.placed-placed.ensures in
    let le = c.if-j-placed.false in
    let lt = c.if-j-reached.false in
    omega (arith, n, k, m, at, le, lt)

pub returns-clause-listed : goal.returns-clause-listed
returns-clause-listed g c =
    let at = c.placed-placed.ensures in
    let le = c.if-j-placed.false in
    listed_deletion (g.S.Sequence.content c.self.inside.seq) c.self.inside.held c.self.inside.site c.self.inside.spare c.args.self.now (record { well = g.met.S.Sequence.well_formed c.self.inside.seq; tree = g.met.S.Sequence.is_tree c.self.inside.seq; only = g.met.S.Sequence.only_placed c.self.inside.seq }) c.self.invariant.settled c.self.view_is c.args.j (c.args.j - c.placed-placed.result) c.hidden_at.result c.hidden_at.ensures (omega (arith, at, le))
    ∙ ap (λ (o : OpView). Some o) (sym c.erase.ensures.value)
