-- The goals of `store` that are answered by hand.
use Rattle.std.proofs.Common.{◌++◌, ◌∷◌, [], take, refl, sym, ap, ◌∙◌, append_assoc, arith}
use Rattle.std.proofs.lemmas.List.{append-nil}
use Rattle.std.proofs.lemmas.Str.{chars_past_char, IsUtf8-past_char}
use Rattle.std.specs.Str.{chars}
use Rattle.std.specs.Str.Iter.{chars_rest}
use Rattle.rga_runs.proofs.TakenIn.{next_is}
use Rattle.rga_runs.proofs.change.store.Goals as goal

pub push_reserved-requires : goal.push_reserved-requires
push_reserved-requires c =
    let all = chars (chars_rest c.args.left.now) in
    let rest = chars_rest c.loop-stored.left in
    let after = chars_rest c.next.new.self in
    let now = c.loop-stored.invariant in
    let next = next_is all c.loop-stored.stored c.in-Some.ch (chars after) (sym now.left_is ∙ chars_past_char rest after c.in-Some.ch now.utf8 c.in-Some.ensures.steps.0) in
    omega (arith, c.requires.memory, now.len, now.capacity, next.there)

pub loop-stored-init : goal.loop-stored-init
loop-stored-init c = record {
  utf8 = c.requires.utf8;
  within = omega arith;
  left_is = refl;
  items = sym (append-nil c.args.characters.now.items);
  len = omega arith;
  capacity = refl;
}

pub loop-stored-preserved : goal.loop-stored-preserved
loop-stored-preserved c =
    let all = chars (chars_rest c.args.left.now) in
    let rest = chars_rest c.loop-stored.left in
    let after = chars_rest c.next.new.self in
    let k = c.loop-stored.stored in
    let ch = c.in-Some.ch in
    let now = c.loop-stored.invariant in
    let is = c.in-Some.ensures.steps.0 in
    let next = next_is all k ch (chars after) (sym now.left_is ∙ chars_past_char rest after ch now.utf8 is) in
    let old = c.args.characters.now.items in
    record {
      utf8 = IsUtf8-past_char rest after ch now.utf8 is;
      within = omega (arith, next.there);
      left_is = sym next.left;
      items = c.push_reserved.ensures.items ∙ ap (λ l. l ++ ch ∷ []) now.items ∙ append_assoc old (take k all) (ch ∷ []) ∙ ap (λ l. old ++ l) (sym next.taken);
      len = omega (arith, c.push_reserved.ensures.len, now.len);
      capacity = c.push_reserved.ensures.capacity ∙ now.capacity;
    }
