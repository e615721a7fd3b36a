-- The goals of `push_followers` that are answered by hand.
use Rattle.std.proofs.Common.{◌≡◌, ℕ, ◌+◌, ◌-◌, ◌++◌, List, [], ◌∷◌, length, take, drop, sym, ap, subst, ◌∙◌, arith}
use Rattle.std.specs.List.{AllByRecursion}
use Rattle.std.specs.Char.{IsScalar}
use Rattle.std.proofs.lemmas.List.{take_all, length-drop, length-take}
use Rattle.bg_types.specs.Identifier.{Identifier}
use Rattle.bg_types.specs.declared.op.Place.TheVariants.{After}
use Rattle.bg_types.specs.declared.op.OpView.{OpView}
use Rattle.bg_types.specs.declared.op.OpView.TheVariants.{Insert}
use Rattle.op_codec.specs.Spelling.{next_of, followers}
use Rattle.op_codec.specs.Fault.{characters_in}
use Rattle.op_codec.proofs.Characters.{length-characters_in}
use Rattle.op_codec.proofs.Runs.{made, one_further, further_pushed, scalar_first, grown_push}
use Rattle.op_codec.proofs.run.push_followers.Goals as goal

pub loop-rest-preserved : goal.loop-rest-preserved
loop-rest-preserved c =
    let l = c.loop-rest in
    let rest = l.rest.now in
    let last = l.last in
    let next = c.unwrap-next.result in
    let ch = c.read_char-ch.result in
    let after = take (length rest - 4) (drop 4 rest) in
    let after_is : after ≡ drop 4 rest = take_all (length rest - 4) (drop 4 rest) (omega (arith, length-drop 4 rest)) in
    let drawn : Identifier = record { counter = c.counter.result + 1; site = c.site.result } in
    let from_last : drawn ≡ next_of last = λ i. record { counter = c.counter.ensures.value i + 1; site = c.site.ensures.value i } in
    let next_is : next ≡ next_of last = made c.new.result next drawn c.unwrap-next.ensures c.new.ensures.value ∙ from_last in
    let op_is : c.unwrap.result ≡ Insert next (After last) ch = made c.insert.result c.unwrap.result (Insert next (After last) ch) c.unwrap.ensures c.insert.ensures.value in
    let left = one_further last next rest after ch c.loop-rest-test.true after_is next_is c.read_char-ch.ensures in
    let items = c.in_ok-push.ensures.items ∙ ap (λ (o : OpView). l.ops.items ++ o ∷ []) op_is in
    let counter = ap (λ (x : Identifier). x.counter) next_is in
    record {
      pushed = further_pushed l.ops.items c.push.new.self.items (followers next (characters_in after)) (Insert next (After last) ch) (followers last (characters_in rest)) _ l.invariant.pushed left items;
      counter = omega (arith, l.invariant.counter, counter, length-characters_in rest, length-characters_in after, length-take (length rest - 4) (drop 4 rest), length-drop 4 rest, c.loop-rest-test.true);
      site = ap (λ (x : Identifier). x.site) next_is ∙ l.invariant.site;
      scalars = subst (λ (s : List ℕ). AllByRecursion IsScalar (characters_in s)) (sym after_is) (scalar_first rest c.loop-rest-test.true l.invariant.scalars).1;
      grown = grown_push c.args.ops.now.items l.ops.items c.push.new.self.items (Insert next (After last) ch) l.invariant.grown items;
    }
