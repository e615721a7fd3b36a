-- The goals of `keyed` that are answered by hand.
use Rattle.std.proofs.Common.{◌∙◌, sym, ap, length, arith}
use Rattle.rga_tree.proofs.Interface.{KeepsWalk-nothing}
use Rattle.rga_sequence.specs.Blocks.{joined, seen}
use Rattle.rga_sequence.specs.BlockRows.{items_of, numbers_of, home_of}
use Rattle.rga_sequence.proofs.blocks.Blocks.keyed.Goals as goal

pub invariant_of-result : goal.invariant_of-result
invariant_of-result c =
    let e = c.new.ensures.items in
    let none = ap length e in
    let row = ap (λ bs. joined (items_of bs)) e in
    record {
      keeps_walk = KeepsWalk-nothing (joined (items_of c.new.result.items)) row;
      indexed = record {
        grouped = c.empty.ensures.grouped;
        homes = λ q. c.empty.ensures.homes q ∙ sym (ap (λ bs. home_of (items_of bs) (numbers_of bs) q) e);
        places = λ p h. absurd (omega (arith, none, h));
        as_many = omega (arith, c.new.ensures.len, c.new-3.ensures.len);
        halves = λ h. absurd (omega (arith, ap (λ bs. length (items_of bs)) e, h));
        bounds = λ p d h. absurd (omega (arith, ap length c.new-4.ensures.items, h));
        sums = record { whole = omega (arith, ap length c.new-5.ensures.items); sums = λ g d h. absurd (omega (arith, ap length c.new-5.ensures.items, h)) };
      };
      enough = record {
        paid = omega (arith, ap length row);
        index = c.empty.ensures.room;
        blocks = omega (arith, c.new.ensures.len, c.new-2.ensures.len);
        places = omega (arith, c.new.ensures.len, c.new-2.ensures.len);
        few = omega (arith, c.new.ensures.len, c.new-2.ensures.len);
      };
      placed_are = sym (ap length row);
      visible_are = sym (ap seen row);
    }

pub returns-clause-hasher : goal.returns-clause-hasher
returns-clause-hasher c = c.empty.ensures.hasher ∙ c.new-hasher.ensures
