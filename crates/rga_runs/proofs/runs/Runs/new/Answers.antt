-- The goal of `new` that is answered by hand.
use Rattle.std.proofs.Common.{◌≡◌, ◌∙◌, ℕ, List, [], Some, None, ap, subst, sym, length, arith}
use Rattle.std.specs.Prelude.{vec_len}
use Rattle.rga_tree.proofs.Interface.{KeepsWalk-nothing}
use Rattle.rga_runs.specs.Stretches.{elements_in, are_stored, visible_in}
use Rattle.rga_runs.specs.Counters.{are_up_to}
use Rattle.rga_runs.specs.Blocks.{row_of, AreHalfFull}
use Rattle.rga_runs.specs.BlockRows.{items_of}
use Rattle.bg_types.specs.Identifier.{Identifier}
use Rattle.rga_runs.specs.declared.leaf.Leaf.{Leaf}
use Rattle.rga_runs.specs.Keyed.{look_in}
use Rattle.rga_runs.specs.Leaves.{all_keys}
use Rattle.rga_runs.proofs.Homes.{told}
use Rattle.rga_runs.proofs.Taken.{most_for}
use Rattle.rga_runs.proofs.runs.Runs.new.Goals as goal

pub invariant_of-result : goal.invariant_of-result
invariant_of-result c =
    let chars = c.new-6.result.items in
    let nothing_for = most_for 0 (vec_len c.new-6.result) (length (row_of (items_of c.new.result.items))) in
    let none : row_of (items_of c.new.result.items) ≡ [] = ap (λ bs. row_of (items_of bs)) c.new.ensures.items in
    record {
      keeps_walk = KeepsWalk-nothing (elements_in chars (row_of (items_of c.new.result.items))) (ap (elements_in chars) none);
      stored = ap (are_stored (length chars)) none;
      indexed = record {
        homes = λ b less. absurd (omega (arith, less, ap (λ bs. length (items_of bs)) c.new.ensures.items));
        known = λ q f n fits is. absurd (nothing_known c.none.result.leaves.items q f n c.none.ensures.leaves is);
        places = λ p less. absurd (omega (arith, less, ap length c.new.ensures.items));
        as_many = omega (arith, c.new.ensures.len, c.new-3.ensures.len);
        keyed = omega (arith, ap (λ ls. length (all_keys ls)) c.none.ensures.leaves, ap length none);
        counted = omega (arith, ap length none);
        halves = subst AreHalfFull (sym (ap items_of c.new.ensures.items)) (λ q less. absurd (omega (arith, less)));
        bounds = λ p d less. absurd (omega (arith, less, ap length c.new-4.ensures.items));
        sums = record { whole = omega (arith, ap length c.new-5.ensures.items); sums = λ g d less. absurd (omega (arith, less, ap length c.new-5.ensures.items)) };
        few = omega (arith, c.new.ensures.len);
      };
      counted = omega (arith, c.new-6.ensures.len, ap (λ ss. length (elements_in chars ss)) none);
      visible_are = sym (ap visible_in none);
      up_to = ap (λ ss. are_up_to 0 (elements_in chars ss)) none;
      enough = record {
        paid = λ some. absurd (omega (arith, some, nothing_for));
        keys = λ some. absurd (omega (arith, some, nothing_for));
        blocks = omega (arith, c.new.ensures.len, c.new-2.ensures.len);
        places = omega (arith, c.new.ensures.len, c.new-2.ensures.len);
        few = omega (arith, c.new.ensures.len, c.new-2.ensures.len);
      };
      enough_characters = omega (arith, c.new-6.ensures.len);
      few = omega (arith, c.new-6.ensures.len);
    } where
      nothing_known : (ls : List Leaf) (q f : Identifier) (n : ℕ) → ls ≡ [] → look_in (all_keys ls) q ≡ Some (f, n) → ⊥
      nothing_known ls q f n none is = let it : None ≡ told f n = sym (ap (λ l. look_in (all_keys l) q) none) ∙ is in absurd cc
