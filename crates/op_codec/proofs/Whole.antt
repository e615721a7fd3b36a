-- What follows for a decoder that reads only what is spelled, and reports only first faults.
use Rattle.std.proofs.Common.{◌≡◌, ℕ, List, Result, Ok, Err, refl, ◌⊎◌, inl, inr}
use Rattle.std.specs.Prelude.{IfOk, IfErr, MatchResult}
use Rattle.std.specs.Global.{Vec}
use Rattle.bg_types.specs.declared.op.Op.{Op}
use Rattle.bg_types.specs.declared.op.OpView.{OpView}
use Rattle.op_codec.specs.declared.fault.Cause.{Cause}
use Rattle.op_codec.specs.declared.fault.CodecFault.{CodecFault}
use Rattle.op_codec.specs.declared.fault.CodecFault.TheVariants.{Malformed, Memory}
use Rattle.op_codec.specs.Spelling.{Spells}
use Rattle.op_codec.specs.Fault.{IsFault, TellsFault}
use Rattle.op_codec.proofs.Unique.{one_list, never_both, one_fault}

pub spelled_read : (bytes : List ℕ) (ops : List OpView) (r : Result (Vec Op) CodecFault) → Spells bytes ops → IfOk r (λ v. Spells bytes v.items) → IfErr r (TellsFault bytes)
    → MatchResult r (λ read. read.items ≡ ops) (λ fault. fault ≡ Memory)
spelled_read bytes ops (Ok v) spelled ok fault = one_list bytes v.items ops ok spelled
spelled_read bytes ops (Err Memory) spelled ok fault = refl
spelled_read bytes ops (Err (Malformed frame cause)) spelled ok fault = absurd (never_both bytes ops frame cause spelled fault)

pub faulty_told : (bytes : List ℕ) (frame : ℕ) (cause : Cause) (r : Result (Vec Op) CodecFault) → IsFault bytes frame cause → IfOk r (λ v. Spells bytes v.items) → IfErr r (TellsFault bytes)
    → MatchResult r (λ _. ⊥) (λ fault. (fault ≡ Malformed frame cause) ⊎ (fault ≡ Memory))
faulty_told bytes frame cause (Ok v) first ok fault = never_both bytes v.items frame cause ok first
faulty_told bytes frame cause (Err Memory) first ok fault = inr refl
faulty_told bytes frame cause (Err (Malformed m d)) first ok fault =
    let same = one_fault bytes m frame d cause fault first in
    inl (λ i. Malformed (same.0 i) (same.1 i))
