-- The goals of `file_size` in version 2 that are answered by hand.
use Rattle.std.proofs.Common.{arith}
use Rattle.op_codec.proofs.Written.{length-first_bytes}
use Rattle.op_codec.proofs.encode_v2.file_size.Goals as goal

pub loop-next-preserved : goal.loop-next-preserved
loop-next-preserved c =
    let next = c.in-Some.next in
    let sized = length-first_bytes c.loop-next.rest.now next.first next.further.now next.rest.now c.in-Some.ensures.first c.in-Some.ensures.insertions in
    record {
      counted = omega (arith, sized, c.saturating_add-size.ensures, c.frame_size.ensures, c.loop-next.invariant.counted, c.loop-next.invariant.within);
      within = omega (arith, sized, c.loop-next.invariant.within);
    }
