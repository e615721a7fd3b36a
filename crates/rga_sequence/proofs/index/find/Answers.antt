-- The goals of `find` that are answered by hand.
use Rattle.std.proofs.Common.{◌≡◌, ◌∙◌, true, sym, ap, rules}
use Rattle.std.specs.HashMap.{get}
use Rattle.bg_types.specs.Identifier.{same_id}
use Rattle.bg_types.proofs.Interface.{same_id-is}
use Rattle.rga_sequence.proofs.Homes.{id_eq}
use Rattle.rga_sequence.proofs.index.find.Goals as goal

pub returns-in-Some : goal.returns-in-Some
returns-in-Some c =
    let same : same_id c.in-Some.recent c.args.group ≡ true = search rules in
    sym (c.requires.recent c.in-Some.recent c.in-Some.place c.in-Some.is) ∙ ap (get id_eq c.args.index.now.groups) (same_id-is c.in-Some.recent c.args.group same)
