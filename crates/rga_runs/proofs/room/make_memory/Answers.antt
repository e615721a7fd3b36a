-- The goals of `make_memory` that are answered by hand.
use Rattle.std.proofs.Common.{◌≡◌, ◌∙◌, refl, sym, ap, subst, length, get_or, arith}
use Rattle.std.specs.Prelude.{slice_get, vec_len}
use Rattle.rga_runs.specs.declared.row.Row.{Row}
use Rattle.rga_runs.specs.Blocks.{row_of, AreHalfFull}
use Rattle.rga_runs.specs.BlockRows.{items_of, numbers_of}
use Rattle.rga_runs.specs.Bounds.{AreBounds}
use Rattle.rga_runs.specs.Sums.{AreSums}
use Rattle.rga_runs.specs.Keyed.{look_in}
use Rattle.rga_runs.specs.Leaves.{all_keys}
use Rattle.rga_runs.specs.KeyRows.{keys_in}
use Rattle.rga_runs.specs.Indexed.{AreHome, AreKnown, IsIndexed}
use Rattle.rga_runs.proofs.room.make_memory.Goals as goal

-- where only memory was made, the keys, the places, the bounds and the sums stay true
IsIndexed-kept : (old new : Row) → IsIndexed old → new.keys.leaves.items ≡ old.keys.leaves.items
    → new.blocks.items ≡ old.blocks.items → new.places.items ≡ old.places.items → vec_len new.places ≡ vec_len new.blocks → new.count ≡ old.count → new.bounds.items ≡ old.bounds.items → new.sums.items ≡ old.sums.items → IsIndexed new
IsIndexed-kept old new indexed keys blocks places as_many counted bounds sums = record {
  homes = subst (λ ls. AreHome (look_in (all_keys ls)) (items_of new.blocks.items) (numbers_of new.blocks.items)) (sym keys)
      (subst (λ bs. AreHome (look_in (keys_in old.keys)) (items_of bs) (numbers_of bs)) (sym blocks) indexed.homes);
  known = subst (λ ls. AreKnown (look_in (all_keys ls)) (row_of (items_of new.blocks.items))) (sym keys)
      (subst (λ bs. AreKnown (look_in (keys_in old.keys)) (row_of (items_of bs))) (sym blocks) indexed.known);
  places = λ p there. (λ i. slice_get (places i) (get_or (numbers_of (blocks i)) p 0)) ∙ indexed.places p (omega (arith, there, ap length blocks));
  as_many = as_many;
  keyed = ap (λ ls. length (all_keys ls)) keys ∙ indexed.keyed ∙ ap (λ bs. length (row_of (items_of bs))) (sym blocks);
  counted = counted ∙ indexed.counted ∙ ap (λ bs. length (row_of (items_of bs))) (sym blocks);
  halves = subst (λ bs. AreHalfFull (items_of bs)) (sym blocks) indexed.halves;
  bounds = subst (λ bs. AreBounds new.bounds.items (items_of bs)) (sym blocks) (subst (λ ms. AreBounds ms (items_of old.blocks.items)) (sym bounds) indexed.bounds);
  sums = subst (λ bs. AreSums new.sums.items (items_of bs)) (sym blocks) (subst (λ ss. AreSums ss (items_of old.blocks.items)) (sym sums) indexed.sums);
  few = omega (arith, indexed.few, ap length blocks, new.blocks.ok, old.blocks.ok);
}

pub returns-in_err-reserve-3-clause-indexed : goal.returns-in_err-reserve-3-clause-indexed
returns-in_err-reserve-3-clause-indexed c = IsIndexed-kept c.args.row.now _ c.requires.indexed c.reserve.ensures.leaves c.reserve-3.ensures.items refl (c.requires.indexed.as_many ∙ sym c.reserve-3.ensures.len) refl refl refl

pub returns-in_err-reserve-4-clause-indexed : goal.returns-in_err-reserve-4-clause-indexed
returns-in_err-reserve-4-clause-indexed c = IsIndexed-kept c.args.row.now _ c.requires.indexed c.reserve.ensures.leaves c.reserve-3.ensures.items c.reserve-4.ensures.items (c.reserve-4.ensures.len ∙ c.requires.indexed.as_many ∙ sym c.reserve-3.ensures.len) refl refl refl

pub returns-in_err-reserve-5-clause-indexed : goal.returns-in_err-reserve-5-clause-indexed
returns-in_err-reserve-5-clause-indexed c = IsIndexed-kept c.args.row.now _ c.requires.indexed c.reserve.ensures.leaves c.reserve-3.ensures.items c.reserve-4.ensures.items (c.reserve-4.ensures.len ∙ c.requires.indexed.as_many ∙ sym c.reserve-3.ensures.len) refl c.reserve-5.ensures.items refl

pub returns-in_err-reserve-6-clause-indexed : goal.returns-in_err-reserve-6-clause-indexed
returns-in_err-reserve-6-clause-indexed c = IsIndexed-kept c.args.row.now _ c.requires.indexed c.reserve.ensures.leaves c.reserve-3.ensures.items c.reserve-4.ensures.items (c.reserve-4.ensures.len ∙ c.requires.indexed.as_many ∙ sym c.reserve-3.ensures.len) refl c.reserve-5.ensures.items c.reserve-6.ensures.items

pub returns-clause-indexed : goal.returns-clause-indexed
returns-clause-indexed c = IsIndexed-kept c.args.row.now _ c.requires.indexed c.reserve.ensures.leaves c.reserve-3.ensures.items c.reserve-4.ensures.items (c.reserve-4.ensures.len ∙ c.requires.indexed.as_many ∙ sym c.reserve-3.ensures.len) refl c.reserve-5.ensures.items c.reserve-6.ensures.items

pub returns-in_err-reserve-2-clause-indexed : goal.returns-in_err-reserve-2-clause-indexed
returns-in_err-reserve-2-clause-indexed c = IsIndexed-kept c.args.row.now _ c.requires.indexed c.reserve.ensures.leaves refl refl c.requires.indexed.as_many refl refl refl
