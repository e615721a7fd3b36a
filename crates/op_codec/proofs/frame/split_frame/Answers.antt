-- The goals of `split_frame` that are answered by hand.
use Rattle.std.proofs.Common.{◌≡◌, ◌≤◌, ◌<◌, ◌+◌, ◌-◌, ℕ, List, length, drop, Some, None, sym, ap, ◌∙◌, arith, rules}
use Rattle.std.proofs.lemmas.List.{take_all, length-take, length-drop}
use Rattle.byteorder.specs.Endian.{big_number}
use Rattle.op_codec.specs.declared.fault.Cause.TheVariants.{Truncated}
use Rattle.op_codec.specs.Fault.{length_cause}
use Rattle.op_codec.proofs.frame.split_frame.Goals as goal

-- a frame of the length that its kind asks for, cut and whole
cut_frame : (wanted : ℕ) (bytes : List ℕ) → big_number 2 bytes ≡ wanted → length bytes < 2 + wanted → length_cause wanted bytes ≡ Some Truncated
cut_frame wanted bytes size short = search rules

whole_frame : (wanted : ℕ) (bytes : List ℕ) → big_number 2 bytes ≡ wanted → 2 + wanted ≤ length bytes → length_cause wanted bytes ≡ None
whole_frame wanted bytes size long = search rules

pub returns-then-bytes-end-clause-fault : goal.returns-then-bytes-end-clause-fault
returns-then-bytes-end-clause-fault c =
    cut_frame c.args.wanted c.args.bytes.now (sym c.read_u16.ensures ∙ c.if-read_u16-wanted.false) (omega (arith, c.if-bytes-end.true, c.from-end.ensures))

pub returns-clause-size : goal.returns-clause-size
returns-clause-size c = sym c.read_u16.ensures ∙ c.if-read_u16-wanted.false

pub returns-clause-count : goal.returns-clause-count
returns-clause-count c =
    let bytes = c.args.bytes.now in
    omega (arith, length-take (2 + c.from-end.result - 3) (drop 3 bytes), length-drop 3 bytes, c.if-bytes-end.false, c.from-end.ensures)

pub returns-clause-rest : goal.returns-clause-rest
returns-clause-rest c =
    let bytes = c.args.bytes.now in
    let end = 2 + c.from-end.result in
    take_all (length bytes - end) (drop end bytes) (omega (arith, length-drop end bytes)) ∙ ap (λ (n : ℕ). drop (2 + n) bytes) c.from-end.ensures

pub returns-clause-fault : goal.returns-clause-fault
returns-clause-fault c =
    whole_frame c.args.wanted c.args.bytes.now (sym c.read_u16.ensures ∙ c.if-read_u16-wanted.false) (omega (arith, c.if-bytes-end.false, c.from-end.ensures))
