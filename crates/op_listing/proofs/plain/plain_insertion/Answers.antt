-- The goals of `plain_insertion` that are answered by hand.
use Rattle.bg_types.specs.declared.op.OpView.TheVariants.{Insert}
use Rattle.op_listing.specs.Field.{identifier_of, parent_place}
use Rattle.op_listing.proofs.PlainLines.{insertion_taken, insertion_made}
use Rattle.op_listing.proofs.plain.plain_insertion.Goals as goal

pub returns : goal.returns
returns c =
    let id = identifier_of c.in_ok-id.id in
    let parent = parent_place c.in_ok-parent.parent in
    let code = c.in_ok-code.code in
    let made = insertion_made c.insertion.result _ c.in_ok-op.op (Insert id parent code) c.in_ok-op.ensures.value c.insertion.ensures.ok c.insertion.ensures.fault in
    insertion_taken id parent code c.in_ok-op.op c.args.fields.now c.in_ok-id.rest.now c.in_ok-behind.field-0.now c.in_ok-parent.rest.now c.in_ok-behind-2.field-0.now c.in_ok-code.rest.now
    c.in_ok-rest.rest.now made.0 made.1 c.in_ok-id.ensures c.in_ok-behind.ensures c.in_ok-parent.ensures c.in_ok-behind-2.ensures c.in_ok-code.ensures c.in_ok-rest.ensures
