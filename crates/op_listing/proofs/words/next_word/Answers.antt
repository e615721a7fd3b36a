-- The goals of `next_word` that are answered by hand.
use Rattle.std.proofs.Common.{◌-◌, List, ℕ, length, take, drop, arith}
use Rattle.std.proofs.lemmas.List.{take_all, length-drop}
use Rattle.op_listing.proofs.Parting.{takes_word}
use Rattle.op_listing.proofs.words.next_word.Goals as goal

pub returns : goal.returns
returns c =
    let start = c.count_spaces.result in
    let line = c.args.line.now in
    let rest : List ℕ = take (length line - start) (drop start line) in
    takes_word line rest c.split_at.result.0.now c.split_at.result.1.now start c.first_place.result c.count_spaces.ensures.count
    (take_all (length line - start) (drop start line) (omega (arith, length-drop start line))) c.first_place.ensures.place c.split_at.ensures.front c.split_at.ensures.back
