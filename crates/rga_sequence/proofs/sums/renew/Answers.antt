-- The goals of `renew` that are answered by hand.
use Rattle.std.proofs.Common.{◌≡◌, ◌++◌, length, take, drop, sym, ap, subst, arith}
use Rattle.std.proofs.lemmas.List.{take_at}
use Rattle.rga_sequence.specs.BlockRows.{items_of}
use Rattle.rga_sequence.specs.Sums.{AreSums, AreSumsBelow}
use Rattle.rga_sequence.proofs.sums.renew.Goals as goal

pub count-requires : goal.count-requires
count-requires c =
    let bs = c.args.blocks.now in
    record {
      few = c.requires.few;
      whole = omega (arith, c.requires.whole, c.add.ensures.whole, ap length c.deref_mut.ensures.value);
      before =
          subst (λ r. AreSumsBelow c.min-from.result r (items_of bs)) (sym c.deref_mut.ensures.value)
          (c.add.ensures.kept c.min-from.result (items_of bs) (omega (arith, c.min-from.ensures, c.len.ensures, c.args.sums.now.ok))
          (λ g d under less. c.requires.before g d (omega (arith, under, c.min-from.ensures)) less));
    }

pub returns : goal.returns
returns c =
    let new = c.count.new.sums in
    let rest = drop (length new) c.add.new.sums.items in
    let kept : take c.add.new.sums.len (new ++ rest) ≡ new = take_at new rest c.add.new.sums.len (omega (arith, c.count.auto.sums, c.deref_mut.ensures.len)) in
    subst (λ r. AreSums r (items_of c.args.blocks.now)) (sym kept) c.count.ensures
