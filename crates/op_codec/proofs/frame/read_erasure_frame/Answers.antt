-- The goals of `read_erasure_frame` that are answered by hand.
use Rattle.std.proofs.Common.{◌≡◌, drop, ap, sym, subst, ◌∙◌, arith, rules}
use Rattle.op_codec.specs.Spelling.{frame_kind, frame_fields}
use Rattle.op_codec.specs.Fault.{identifier_at}
use Rattle.op_codec.proofs.Bytes.{IsBytes, IsBytes-take, IsBytes-drop}
use Rattle.op_codec.proofs.Frames.{erasure_fields, erasure_spelled}
use Rattle.op_codec.proofs.Gathered.{alone_is}
use Rattle.op_codec.proofs.frame.read_erasure_frame.Goals as goal

pub returns-clause-ok : goal.returns-clause-ok
returns-clause-ok c =
    let bytes = c.args.bytes.now in
    let parts = c.in_ok-fields.ensures in
    let fields = c.in_ok-fields.fields.now in
    let fits : IsBytes bytes = λ i. omega (arith, c.type_inv.bytes i) in
    let fits' : IsBytes fields = subst IsBytes (sym parts.fields) (IsBytes-take 6 (drop 3 bytes) (IsBytes-drop 3 bytes fits)) in
    let target : c.in_ok-target.target ≡ identifier_at fields = search rules in
    record {
      spelled = erasure_spelled bytes fields c.in_ok-fields.rest.now c.erase.result fits c.requires.long c.requires.kind parts.size parts.fields parts.rest (ap frame_kind c.erase.ensures.value)
          (ap frame_fields c.erase.ensures.value ∙ erasure_fields fields c.in_ok-target.target fits' parts.count target);
      is_frame = alone_is 1 c.erase.result (omega arith) c.erase.ensures.well_formed;
    }
