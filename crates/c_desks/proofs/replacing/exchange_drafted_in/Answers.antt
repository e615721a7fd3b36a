-- The message of the operations fits.
use Rattle.std.proofs.Common.{◌-◌, ◌++◌, List, length, ap, ◌∙◌, arith}
use Rattle.std.specs.Str.{chars}
use Rattle.bg_types.specs.declared.op.OpView.{OpView}
use Rattle.op_codec.specs.Spelling.{spelling}
use Rattle.desk_replica.specs.Replacement.{replacement}
use Rattle.c_desks.proofs.Messages.{replaced_fits, replaced_length}
use Rattle.c_desks.proofs.replacing.exchange_drafted_in.Goals as goal

pub write-requires-clause-bytes : goal.write-requires-clause-bytes
write-requires-clause-bytes c =
    let desk = c.args.desk.now in
    let chs = chars c.args.text.now in
    let made = replacement desk.set desk.site c.args.from (c.args.to - c.args.from) chs in
    let ops = c.in-Ok.ensures.made ∙ ap (λ (l : List OpView). l ++ made) c.requires.ops in
    omega (arith, ap length ops, replaced_length desk.set desk.site c.args.from c.args.to chs c.requires.room.order c.requires.room.within, c.requires.bytes)

pub write-requires-clause-room : goal.write-requires-clause-room
write-requires-clause-room c =
    let desk = c.args.desk.now in
    let chs = chars c.args.text.now in
    let made = replacement desk.set desk.site c.args.from (c.args.to - c.args.from) chs in
    let ops = c.in-Ok.ensures.made ∙ ap (λ (l : List OpView). l ++ made) c.requires.ops in
    omega (
      arith,
      ap (λ (l : List OpView). length (spelling l)) ops,
      replaced_fits desk.set desk.site c.args.from c.args.to chs (length c.args.out.now) c.requires.room.order c.requires.room.within c.requires.room.fits,
    )
