-- The goals of `rest_of` that are answered by hand.
use Rattle.std.proofs.Common.{◌-◌, length, take, drop, arith}
use Rattle.std.specs.Prelude.{All, Contains}
use Rattle.std.proofs.lemmas.List.Elements.{All-drop, All-same, All-take, Contains-get_or}
use Rattle.rga_tree.specs.Elements.{elements}
use Rattle.desk_replica.proofs.Disagreeing.{part_contains}
use Rattle.desk_replica.proofs.cursor.rest_of.Goals as goal

pub returns-in-Some : goal.returns-in-Some
returns-in-Some g c =
    let seq = c.args.seq.now in
    let at = c.args.at in
    let row = c.part.result.now in
    let there = Contains (elements (g.S.Sequence.content seq)) in
    let all : All there row = λ k d lt. part_contains (g.S.Sequence.parts seq) c.args.part row (elements (g.S.Sequence.content seq)) _ (omega arith) c.part.ensures (g.met.S.Sequence.whole seq) (Contains-get_or row k d lt) in
    All-same there c.in-Some.rest.now (take (length row - at) (drop at row)) c.in-Some.ensures.lookup.0.2 (All-take there (length row - at) (drop at row) (All-drop there at row all))
