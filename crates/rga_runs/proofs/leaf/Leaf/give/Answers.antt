-- The goals of `give` that are answered by hand.
use Rattle.std.proofs.Common.{◌≡◌, ◌+◌, ◌-◌, ◌++◌, ◌∙◌, List, true, cond, length, take, drop, ap, length-drop, arith}
use Rattle.std.specs.Prelude.{is_ok, vec_len}
use Rattle.std.proofs.lemmas.List.{take_at, drop_at, take_rest}
use Rattle.rga_runs.specs.declared.key.Key.{Key}
use Rattle.rga_runs.proofs.leaf.Leaf.give.Goals as goal

pub unwrap-requires : goal.unwrap-requires
unwrap-requires c =
    let all = c.deref.result.now in
    let at = c.args.at in
    let next = c.args.next.now in
    let room = next.room in
    let rest : length (take (length all - at) (drop at all)) ≡ length all - at = ap length (take_rest all at) ∙ length-drop at all in
    c.extend_from_slice.ensures.succeeds (omega (arith, rest, ap length c.deref.ensures.value, c.requires.room, c.requires.within, next.keys.ok, room))

pub returns-clause-next : goal.returns-clause-next
returns-clause-next c =
    let old = c.args.next.now.keys in
    let all = c.deref.result.now in
    let at = c.args.at in
    let more = take (length all - at) (drop at all) in
    let both = c.extend_from_slice.new.self in
    let ok : is_ok c.extend_from_slice.result ≡ true = ap is_ok c.unwrap.ensures in
    let items : both.items ≡ old.items ++ more = c.extend_from_slice.ensures.items ∙ ap (λ t. cond t (old.items ++ more) old.items) ok in
    let long : vec_len both ≡ vec_len old + length more = c.extend_from_slice.ensures.len ∙ ap (λ t. cond t (vec_len old + length more) (vec_len old)) ok in
    let n = vec_len both - length more in
    let first : length old.items ≡ n = omega (arith, old.ok, long) in
    c.rotate_right.ensures.items ∙ (λ i. drop n (items i) ++ take n (items i))
    ∙ (λ i. drop_at old.items more n first i ++ take_at old.items more n first i)
    ∙ ap (λ (l : List Key). l ++ old.items) (take_rest all at ∙ ap (drop at) c.deref.ensures.value)
