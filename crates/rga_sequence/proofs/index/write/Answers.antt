-- The goals of `write` that are answered by hand.
use Rattle.std.proofs.Common.{◌≡◌, ◌<◌, ◌+◌, ◌*◌, ◌%◌, ◌∙◌, suc, length, arith}
use Rattle.std.proofs.Math.Nat.{mod-lt}
use Rattle.std.specs.Prelude.{set}
use Rattle.std.specs.HashMap.{get}
use Rattle.rga_sequence.specs.Grouped.{group_of, home_at}
use Rattle.rga_sequence.proofs.Groups.{home_at-written}
use Rattle.rga_sequence.proofs.Homes.{id_eq}
use Rattle.rga_sequence.proofs.index.write.Goals as goal

pub returns-clause-homes : goal.returns-clause-homes
returns-clause-homes c = λ q.
    let groups = get id_eq c.args.index.now.groups in
    let ns = c.args.index.now.numbers.items in
    let place = c.args.place in
    let id = c.args.id in
    let before = c.requires.grouped.within (group_of id) place c.requires.place in
    let few = mod-lt id.counter {m = 8} (omega arith) in
    let within : 8 * place + id.counter % 8 < length ns = omega (arith, before, few, c.requires.grouped.sized) in
    let more : c.args.number + 1 ≡ suc c.args.number = omega arith in
    (λ i. home_at (set ns (c.slot-slot.ensures i) (more i)) q (groups (group_of q)))
    ∙ home_at-written ns q id place c.args.number groups within c.requires.place c.requires.grouped.apart
