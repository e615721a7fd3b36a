-- The goals of `rehome` that are answered by hand.
use Rattle.std.proofs.Common.{◌≡◌, ◌∙◌, get_or, sym, subst}
use Rattle.std.specs.Prelude.{All}
use Rattle.std.proofs.lemmas.List.{take_all, get_or_default}
use Rattle.rga_runs.specs.declared.stretch.Stretch.{Stretch}
use Rattle.rga_runs.specs.Stretches.{IsOutside}
use Rattle.rga_runs.specs.Keyed.{look_in}
use Rattle.rga_runs.specs.Leaves.{all_keys}
use Rattle.rga_runs.specs.Indexed.{IsHome}
use Rattle.rga_runs.proofs.Homes.{first_fits, first_home, renewed, home_kept, known_more}
use Rattle.rga_runs.proofs.room.rehome.Goals as goal

pub renew-requires-clause-there : goal.renew-requires-clause-there
renew-requires-clause-there c =
    let left = c.loop-at.invariant.left in
    let s = get_or c.args.moved.now c.loop-at.at c.index-moved-at.result in
    (left.0, first_home (look_in (all_keys c.loop-at.keys.leaves.items)) left.0 c.args.moved.now c.loop-at.at s c.loop-at-test.true (get_or_default c.args.moved.now c.loop-at.at c.index-moved-at.result s c.loop-at-test.true) left.1)

pub loop-at-preserved : goal.loop-at-preserved
loop-at-preserved c =
    let i = c.loop-at.invariant in
    let s = get_or c.args.moved.now c.loop-at.at c.index-moved-at.result in
    let is : s ≡ get_or c.args.moved.now c.loop-at.at s = get_or_default c.args.moved.now c.loop-at.at c.index-moved-at.result s c.loop-at-test.true in
    let old = look_in (all_keys c.loop-at.keys.leaves.items) in
    let new = look_in (all_keys c.renew.new.keys.leaves.items) in
    let gains = c.renew.ensures.looks in
    let both = renewed new old c.args.moved.now c.loop-at.at s c.args.number c.requires.apart c.loop-at-test.true is gains i.done i.left.0 i.left.1 in
    record {
      done = both.0;
      left = (i.left.0, both.1);
      others = λ t n outside home. home_kept new old s.first c.args.number n t gains
          (subst (λ (z : Stretch). IsOutside z.first t) (sym is) (outside c.loop-at.at s c.loop-at-test.true)) (i.others t n outside home);
      known = λ ss was. known_more new old s.first c.args.number ss ss gains (i.known ss was) (λ g out. out)
          (i.known ss was s.first s.first i.left.0 (first_fits s) (first_home old i.left.0 c.args.moved.now c.loop-at.at s c.loop-at-test.true is i.left.1));
      len = c.renew.ensures.len ∙ i.len;
      leaves = c.renew.ensures.leaves ∙ i.leaves;
      spares = c.renew.ensures.spares ∙ i.spares;
    }

pub returns-clause-homes : goal.returns-clause-homes
returns-clause-homes c =
    subst (All (IsHome (look_in (all_keys c.loop-at.keys.leaves.items)) c.args.number)) (take_all c.loop-at.at c.args.moved.now c.loop-at-test.false) c.loop-at.invariant.done
