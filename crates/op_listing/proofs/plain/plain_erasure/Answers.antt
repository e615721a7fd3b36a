-- The goals of `plain_erasure` that are answered by hand.
use Rattle.std.proofs.Common.{ap, ◌∙◌}
use Rattle.bg_types.specs.declared.op.OpView.TheVariants.{Erase}
use Rattle.op_listing.specs.Field.{identifier_of}
use Rattle.op_listing.proofs.ListedAgain.{no_fault}
use Rattle.op_listing.proofs.PlainLines.{erasure_taken}
use Rattle.op_listing.proofs.plain.plain_erasure.Goals as goal

pub returns : goal.returns
returns c =
    let made = c.erase.ensures in
    erasure_taken (identifier_of c.in_ok-target.target) c.erase.result c.args.fields.now c.in_ok-target.rest.now c.in_ok-rest.rest.now
    (made.value ∙ ap Erase c.in_ok-target-2.ensures.value) (no_fault c.erase.result made.well_formed) c.in_ok-target.ensures c.in_ok-rest.ensures
