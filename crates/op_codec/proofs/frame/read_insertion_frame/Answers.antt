-- The goals of `read_insertion_frame` that are answered by hand.
use Rattle.std.proofs.Common.{◌≡◌, drop, ap, sym, subst, ◌∙◌, arith, rules}
use Rattle.std.specs.Prelude.{IfSome}
use Rattle.byteorder.specs.Endian.{big_number}
use Rattle.bg_types.specs.WellFormed.{IsWellFormed}
use Rattle.bg_types.specs.declared.op.OpView.TheVariants.{Insert}
use Rattle.op_codec.specs.declared.fault.Cause.TheVariants.{NotAScalar}
use Rattle.op_codec.specs.Spelling.{frame_kind, frame_fields}
use Rattle.op_codec.proofs.Bytes.{IsBytes, IsBytes-take, IsBytes-drop}
use Rattle.op_codec.proofs.Causes.{behind, insertion_numbers, insertion_no_scalar, insertion_framed}
use Rattle.op_codec.proofs.Frames.{insertion_fields, insertion_spelled}
use Rattle.op_codec.proofs.Gathered.{alone_is}
use Rattle.op_codec.proofs.frame.read_insertion_frame.Goals as goal

pub returns-in_err-id-clause-err : goal.returns-in_err-id-clause-err
returns-in_err-id-clause-err c =
    let parts = c.in_ok-fields.ensures in
    let fields = c.in_ok-fields.fields.now in
    let cause = c.in_err-id.field-0.0 in
    let shown = insertion_framed c.args.bytes.now fields cause parts.fault parts.fields (insertion_numbers fields cause c.in_err-id.ensures.fault) in
    search rules

pub returns-in-None-clause-err : goal.returns-in-None-clause-err
returns-in-None-clause-err c =
    let parts = c.in_ok-fields.ensures in
    let fields = c.in_ok-fields.fields.now in
    insertion_framed c.args.bytes.now fields NotAScalar parts.fault parts.fields
    (insertion_no_scalar fields c.read_u32.result c.in_ok-id.ensures.fault (c.read_u32.ensures ∙ ap (big_number 4) (behind 12 fields)) c.in-None.ensures.value)

pub returns-in-Some-clause-ok : goal.returns-in-Some-clause-ok
returns-in-Some-clause-ok c =
    let bytes = c.args.bytes.now in
    let parts = c.in_ok-fields.ensures in
    let fields = c.in_ok-fields.fields.now in
    let numbers = c.in_ok-id.ensures in
    let fits : IsBytes bytes = λ i. omega (arith, c.type_inv.bytes i) in
    let fits' : IsBytes fields = subst IsBytes (sym parts.fields) (IsBytes-take 16 (drop 3 bytes) (IsBytes-drop 3 bytes fits)) in
    let ch : c.in-Some.ch ≡ big_number 4 (drop 12 fields) = c.in-Some.ensures.value.1 ∙ c.read_u32.ensures ∙ ap (big_number 4) (behind 12 fields) in
    let made = subst (λ op. IfSome op (λ o. o ≡ Insert c.in_ok-id.id c.in_ok-id.parent c.in-Some.ch)) c.unwrap.ensures c.insert.ensures.value in
    let well = subst (λ op. IfSome op IsWellFormed) c.unwrap.ensures c.insert.ensures.well_formed in
    record {
      spelled = insertion_spelled bytes fields c.in_ok-fields.rest.now c.unwrap.result fits c.requires.long c.requires.kind parts.size parts.fields parts.rest (ap frame_kind made)
          (ap frame_fields made ∙ insertion_fields fields c.in_ok-id.id c.in_ok-id.parent c.in-Some.ch fits' parts.count numbers.id numbers.parent ch);
      is_frame = alone_is 1 c.unwrap.result (omega arith) well;
    }
