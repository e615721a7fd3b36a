-- The goals of `read_run` that are answered by hand.
use Rattle.std.proofs.Common.{◌≡◌, ℕ, ◌+◌, ◌-◌, ◌^◌, ◌<◌, ◌++◌, List, length, take, drop, sym, ap, subst, ◌∙◌, arith}
use Rattle.std.specs.List.{AllByRecursion, list_all}
use Rattle.std.specs.Char.{IsScalar}
use Rattle.std.proofs.Math.Utf8.{scalar}
use Rattle.std.proofs.lemmas.List.{take_all, length-drop, length-take, drop-drop}
use Rattle.byteorder.specs.Endian.{big_number}
use Rattle.bg_types.specs.Identifier.{Identifier}
use Rattle.bg_types.specs.declared.op.OpView.{OpView}
use Rattle.bg_types.specs.declared.op.OpView.TheVariants.{Insert}
use Rattle.op_codec.specs.Spelling.{frame_fields}
use Rattle.op_codec.specs.Frames.{MayGoOn}
use Rattle.op_codec.specs.Fault.{characters_in}
use Rattle.op_codec.proofs.Characters.{length-characters_in, scalars_there}
use Rattle.op_codec.proofs.Frames.{run_fields}
use Rattle.op_codec.proofs.Gathered.{may_go_on}
use Rattle.op_codec.proofs.Runs.{made, run_over, run_no_scalar, scalar_first}
use Rattle.op_codec.proofs.run.read_run.Goals as goal

-- the bytes of the characters
chars_are : (f : List ℕ) → take (length f - 12) (drop 12 f) ≡ drop 12 f
chars_are f = take_all (length f - 12) (drop 12 f) (omega (arith, length-drop 12 f))

pub returns-then-from-chars-clause-err : goal.returns-then-from-chars-clause-err
returns-then-from-chars-clause-err c =
    let f = c.args.fields.now in
    let counter = ap (λ (x : Identifier). x.counter) c.in_ok-id.ensures.id in
    run_over f c.in_ok-id.ensures.fault
    (omega (arith, c.if-from-chars.true, c.from.ensures, c.counter.ensures.value, counter, length-characters_in (drop 12 f), length-drop 12 f, length-take (length f - 12) (drop 12 f)))

pub returns-then-not-are_scalars-clause-err : goal.returns-then-not-are_scalars-clause-err
returns-then-not-are_scalars-clause-err c =
    let f = c.args.fields.now in
    let counter = ap (λ (x : Identifier). x.counter) c.in_ok-id.ensures.id in
    run_no_scalar f c.in_ok-id.ensures.fault
    (omega (arith, c.if-from-chars.false, c.from.ensures, c.counter.ensures.value, counter, length-characters_in (drop 12 f), length-drop 12 f, length-take (length f - 12) (drop 12 f)))
    (ap (λ (s : List ℕ). list_all scalar (characters_in s)) (sym (chars_are f)) ∙ sym c.are_scalars.ensures ∙ c.if-not-are_scalars.true)

pub read_char-requires-clause-scalar : goal.read_char-requires-clause-scalar
read_char-requires-clause-scalar c =
    let f = c.args.fields.now in
    let chars = take (length f - 12) (drop 12 f) in
    (scalar_first chars (omega (arith, c.requires, length-take (length f - 12) (drop 12 f), length-drop 12 f)) (scalars_there (characters_in chars) (sym c.are_scalars.ensures ∙ c.if-not-are_scalars.false))).0

pub returns-clause-fields : goal.returns-clause-fields
returns-clause-fields c =
    let f = c.args.fields.now in
    let op = Insert c.in_ok-id.id c.in_ok-id.parent c.read_char.result in
    let is : c.unwrap.result ≡ op = made c.insert.result c.unwrap.result op c.unwrap.ensures c.insert.ensures.value in
    run_fields f c.in_ok-id.id c.in_ok-id.parent c.read_char.result (λ i. omega (arith, c.type_inv.fields i)) (omega (arith, c.requires)) c.in_ok-id.ensures.id c.in_ok-id.ensures.parent
    (c.read_char.ensures ∙ ap (big_number 4) (chars_are f)) ∙ ap (λ (o : OpView). frame_fields o ++ drop 16 f) (sym is)

pub returns-clause-goes_on : goal.returns-clause-goes_on
returns-clause-goes_on c =
    let f = c.args.fields.now in
    let id = c.in_ok-id.id in
    let op = Insert id c.in_ok-id.parent c.read_char.result in
    let is : c.unwrap.result ≡ op = made c.insert.result c.unwrap.result op c.unwrap.ensures c.insert.ensures.value in
    let further = characters_in (drop 16 f) in
    let fits : id.counter + length further < 2 ^ 32 =
    omega (arith, c.requires, c.if-from-chars.false, c.from.ensures, c.counter.ensures.value, length-characters_in (drop 16 f), length-drop 16 f, length-drop 12 f, length-take (length f - 12) (drop 12 f)) in
    subst (λ (o : OpView). MayGoOn o further) (sym is) (may_go_on id c.in_ok-id.parent c.read_char.result further fits)

pub returns-clause-scalars : goal.returns-clause-scalars
returns-clause-scalars c =
    let f = c.args.fields.now in
    let all = subst (λ (s : List ℕ). AllByRecursion IsScalar (characters_in s)) (chars_are f) (scalars_there (characters_in (take (length f - 12) (drop 12 f))) (sym c.are_scalars.ensures ∙ c.if-not-are_scalars.false)) in
    let others = (scalar_first (drop 12 f) (omega (arith, c.requires, length-drop 12 f)) all).1 in
    subst (λ (s : List ℕ). AllByRecursion IsScalar (characters_in s)) (drop-drop 4 12 f) others
