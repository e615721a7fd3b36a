-- The goals of `encode_file_v2` that are answered by hand.
use Rattle.std.proofs.Common.{List, ℕ, length, ap, arith}
use Rattle.std.proofs.lemmas.List.{length-append}
use Rattle.op_codec.specs.Spelling.{frame_bytes}
use Rattle.op_codec.proofs.Gathers.{frame_of}
use Rattle.op_codec.proofs.Written.{gathered_bytes, first_bytes}
use Rattle.op_codec.proofs.encode_v2.encode_file_v2.Goals as goal

-- the next frame has its place in the whole
pub unwrap-requires-in-Some : goal.unwrap-requires-in-Some
unwrap-requires-in-Some c =
    let l = c.loop-next in
    let next = c.in-Some.next in
    let f = frame_of next.first next.further.now in
    let first = ap (λ (s : List ℕ). length s) (first_bytes l.rest.now f next.rest.now c.in-Some.ensures.first) in
    let whole = ap (λ (s : List ℕ). length s) l.invariant.written in
    let parts = length-append l.file.items (gathered_bytes l.rest.now) in
    let later = length-append (frame_bytes f) (gathered_bytes next.rest.now) in
    c.write_frame.ensures.room (omega (arith, first, whole, parts, later, l.invariant.room, l.file.ok))
