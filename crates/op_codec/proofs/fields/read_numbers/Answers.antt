-- The goals of `read_numbers` that are answered by hand.
use Rattle.std.proofs.Common.{true, false, sym, ◌∙◌}
use Rattle.op_codec.proofs.Causes.{no_id, no_parent, both_read}
use Rattle.op_codec.proofs.fields.read_numbers.Goals as goal
use Rattle.op_codec.proofs.fields.read_numbers.Goals.{in_default-via-in-Some+in_default, in_default-via-in_default}

pub returns-in_default-clause-fault : goal.returns-in_default-clause-fault
returns-in_default-clause-fault c = elim c.in_default.branch [
  | in_default-via-in-Some+in_default w ↦ no_parent c.args.fields.now c.read_place.result w.in_default.is-1 c.read_place.ensures.zero
  | in_default-via-in_default w ↦ no_id c.args.fields.now c.read_id.result w.in_default.is-0 c.read_id.ensures.zero
]

pub returns-then-is_late-clause-fault : goal.returns-then-is_late-clause-fault
returns-then-is_late-clause-fault c =
    let read = c.in-Some-Some in
    both_read c.args.fields.now read.id read.parent true read.ensures.zero read.ensures'.zero read.ensures.value read.ensures'.value (sym c.if-is_late.true ∙ c.is_late.ensures.late)

pub returns-clause-fault : goal.returns-clause-fault
returns-clause-fault c =
    let read = c.in-Some-Some in
    both_read c.args.fields.now read.id read.parent false read.ensures.zero read.ensures'.zero read.ensures.value read.ensures'.value (sym c.if-is_late.false ∙ c.is_late.ensures.late)
