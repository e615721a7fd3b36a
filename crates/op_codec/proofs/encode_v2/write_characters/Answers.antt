-- The goals of `write_characters` that are answered by hand.
use Rattle.std.proofs.Common.{◌≡◌, ◌≤◌, arith, List, ℕ, [], ◌∷◌, ◌++◌, length, take, sym, ap, ◌∙◌, append-nil}
use Rattle.std.specs.List.{flat_map}
use Rattle.std.specs.Vec.{vec_capacity}
use Rattle.std.proofs.lemmas.List.{length-append}
use Rattle.byteorder.specs.Endian.{big_bytes}
use Rattle.bg_types.specs.declared.op.OpView.{OpView}
use Rattle.op_codec.specs.Gathering.{inserted_characters}
use Rattle.op_codec.proofs.Characters.{length-bytes}
use Rattle.op_codec.proofs.Written.{characters_pushed, characters_left}
use Rattle.op_codec.proofs.encode_v2.write_characters.Goals as goal
use Rattle.op_codec.proofs.encode_v2.write_characters.Goals.{in-Insert+in_ok-extend_from_slice-in-Insert, in-Erase}

abbrev bytes_of : OpView → List ℕ
bytes_of op = flat_map (big_bytes 4) (inserted_characters (op ∷ []))

pub loop-op-preserved : goal.loop-op-preserved
loop-op-preserved c =
    let l = c.loop-op in
    let op = c.op-item.result in
    let grew : c.match-view.out.items ≡ l.out.items ++ bytes_of op =
    elim c.match-view.branch [
      | in-Insert+in_ok-extend_from_slice-in-Insert w ↦
          (λ i. (w.out-is i).items) ∙ w.in_ok-extend_from_slice-in-Insert.ensures.items ∙ ap (λ (s : List ℕ). l.out.items ++ s) (w.write_u32.ensures ∙ ap (big_bytes 4) w.from.ensures ∙ ap bytes_of w.in-Insert.ensures.value)
      | in-Erase w ↦ (λ i. (w.out-is i).items) ∙ sym (append-nil l.out.items) ∙ ap (λ (o : OpView). l.out.items ++ bytes_of o) w.in-Erase.ensures.value
    ] in
    let kept : vec_capacity c.args.out.now ≤ vec_capacity c.match-view.out =
    elim c.match-view.branch [
      | in-Insert+in_ok-extend_from_slice-in-Insert w ↦
          let same : vec_capacity c.match-view.out ≡ vec_capacity w.extend_from_slice.new.self = λ i. vec_capacity (w.out-is i) in omega (arith, w.extend_from_slice.ensures.capacity, same, l.invariant.capacity)
      | in-Erase w ↦ let same : vec_capacity c.match-view.out ≡ vec_capacity l.out = λ i. vec_capacity (w.out-is i) in omega (arith, same, l.invariant.capacity)
    ] in
    record {
      written = characters_pushed c.args.out.now.items l.out.items c.match-view.out.items c.args.ops.now l.op-index op c.loop-op-test.true c.op-item.is l.invariant.written grew;
      capacity = kept;
    }

pub returns-in_err-extend_from_slice-in-Insert-clause-room : goal.returns-in_err-extend_from_slice-in-Insert-clause-room
returns-in_err-extend_from_slice-in-Insert-clause-room c =
    let l = c.loop-op in
    let op = c.op-item.result in
    let done = inserted_characters (take l.op-index c.args.ops.now) in
    let full = c.in_err-extend_from_slice-in-Insert.ensures.full in
    let four = ap (λ (s : List ℕ). length s) c.write_u32.ensures in
    let written = ap (λ (s : List ℕ). length s) l.invariant.written in
    let parts = length-append c.args.out.now.items (flat_map (big_bytes 4) done) in
    let left = characters_left c.args.ops.now l.op-index op c.loop-op-test.true c.op-item.is in
    let one = ap (λ (o : OpView). length (inserted_characters (o ∷ []))) c.in-Insert.ensures.value in
    λ room. absurd (omega (arith, room, full, four, written, parts, length-bytes done, left, one, l.invariant.capacity, l.out.ok, c.args.out.now.ok))
