-- The goals of `make_memory` that are answered by hand.
use Rattle.std.proofs.Common.{◌≡◌, ℕ, ◌≤◌, ◌∙◌, refl, sym, ap, subst, length, get_or, arith}
use Rattle.std.specs.Prelude.{slice_get, vec_len, vec_capacity}
use Rattle.bg_types.specs.Identifier.{Identifier}
use Rattle.rga_sequence.specs.declared.row.Row.{Row}
use Rattle.rga_sequence.specs.Blocks.{joined}
use Rattle.rga_sequence.specs.BlockRows.{items_of, numbers_of, home_of, AreHalfFull}
use Rattle.rga_sequence.specs.Bounds.{AreBounds}
use Rattle.rga_sequence.specs.Sums.{AreSums}
use Rattle.rga_sequence.specs.Grouped.{home_in, IsGrouped, HasIndexRoom}
use Rattle.rga_sequence.specs.Indexed.{IsIndexed, HasRoom}
use Rattle.rga_sequence.proofs.Homes.{id_eq}
use Rattle.rga_sequence.proofs.row.make_memory.Goals as goal

-- where only memory was made, the index, the places, the bounds and the sums stay true
IsIndexed-kept : (old new : Row) → IsIndexed id_eq old → IsGrouped id_eq new.index → ((q : Identifier) → home_in id_eq new.index q ≡ home_in id_eq old.index q)
    → new.blocks.items ≡ old.blocks.items → new.places.items ≡ old.places.items → vec_len new.places ≡ vec_len new.blocks → new.bounds.items ≡ old.bounds.items → new.sums.items ≡ old.sums.items → IsIndexed id_eq new
IsIndexed-kept old new indexed grouped homes blocks places as_many bounds sums = record {
  grouped = grouped;
  homes = λ q. homes q ∙ indexed.homes q ∙ (λ i. home_of (items_of (sym blocks i)) (numbers_of (sym blocks i)) q);
  places = λ p there. (λ i. slice_get (places i) (get_or (numbers_of (blocks i)) p 0)) ∙ indexed.places p (omega (arith, there, ap length blocks));
  as_many = as_many;
  halves = subst (λ bs. AreHalfFull (items_of bs)) (sym blocks) indexed.halves;
  bounds = subst (λ bs. AreBounds new.bounds.items (items_of bs)) (sym blocks) (subst (λ ms. AreBounds ms (items_of old.blocks.items)) (sym bounds) indexed.bounds);
  sums = subst (λ bs. AreSums new.sums.items (items_of bs)) (sym blocks) (subst (λ ss. AreSums ss (items_of old.blocks.items)) (sym sums) indexed.sums);
}

-- and so does the room for as many placings
HasRoom-kept : (old new : Row) → new.blocks.items ≡ old.blocks.items → vec_len new.blocks ≡ vec_len old.blocks → vec_len new.spares ≡ vec_len old.spares → vec_capacity old.blocks ≤ vec_capacity new.blocks
    → vec_capacity old.places ≤ vec_capacity new.places → ((m : ℕ) → HasIndexRoom old.index m → HasIndexRoom new.index m) → (m : ℕ) → HasRoom old m → HasRoom new m
HasRoom-kept old new items len spares capacity places index m room = record {
  paid = omega (arith, room.paid, ap (λ bs. length (joined (items_of bs))) items, len, spares);
  index = index m room.index;
  blocks = omega (arith, room.blocks, len, spares, capacity);
  places = omega (arith, room.places, len, spares, places);
  few = omega (arith, room.few, len, spares);
}

pub returns-in_err-reserve-clause-indexed : goal.returns-in_err-reserve-clause-indexed
returns-in_err-reserve-clause-indexed c = IsIndexed-kept c.args.row.now _ c.requires.indexed c.reserve.ensures.grouped c.reserve.ensures.homes refl refl c.requires.indexed.as_many refl refl

pub returns-in_err-reserve-clause-kept : goal.returns-in_err-reserve-clause-kept
returns-in_err-reserve-clause-kept c = HasRoom-kept c.args.row.now _ refl refl refl (omega arith) (omega arith) c.reserve.ensures.kept

pub returns-in_err-reserve-2-clause-indexed : goal.returns-in_err-reserve-2-clause-indexed
returns-in_err-reserve-2-clause-indexed c = IsIndexed-kept c.args.row.now _ c.requires.indexed c.reserve.ensures.grouped c.reserve.ensures.homes refl refl c.requires.indexed.as_many refl refl

pub returns-in_err-reserve-2-clause-kept : goal.returns-in_err-reserve-2-clause-kept
returns-in_err-reserve-2-clause-kept c = HasRoom-kept c.args.row.now _ refl refl c.reserve-2.ensures.len (omega arith) (omega arith) c.reserve.ensures.kept

pub returns-in_err-reserve-3-clause-indexed : goal.returns-in_err-reserve-3-clause-indexed
returns-in_err-reserve-3-clause-indexed c = IsIndexed-kept c.args.row.now _ c.requires.indexed c.reserve.ensures.grouped c.reserve.ensures.homes c.reserve-3.ensures.items refl (c.requires.indexed.as_many ∙ sym c.reserve-3.ensures.len) refl refl

pub returns-in_err-reserve-3-clause-kept : goal.returns-in_err-reserve-3-clause-kept
returns-in_err-reserve-3-clause-kept c = HasRoom-kept c.args.row.now _ c.reserve-3.ensures.items c.reserve-3.ensures.len c.reserve-2.ensures.len c.reserve-3.ensures.capacity (omega arith) c.reserve.ensures.kept

pub returns-in_err-reserve-4-clause-indexed : goal.returns-in_err-reserve-4-clause-indexed
returns-in_err-reserve-4-clause-indexed c = IsIndexed-kept c.args.row.now _ c.requires.indexed c.reserve.ensures.grouped c.reserve.ensures.homes c.reserve-3.ensures.items c.reserve-4.ensures.items (c.reserve-4.ensures.len ∙ c.requires.indexed.as_many ∙ sym c.reserve-3.ensures.len) refl refl

pub returns-in_err-reserve-4-clause-kept : goal.returns-in_err-reserve-4-clause-kept
returns-in_err-reserve-4-clause-kept c = HasRoom-kept c.args.row.now _ c.reserve-3.ensures.items c.reserve-3.ensures.len c.reserve-2.ensures.len c.reserve-3.ensures.capacity c.reserve-4.ensures.capacity c.reserve.ensures.kept

pub returns-in_err-reserve-5-clause-indexed : goal.returns-in_err-reserve-5-clause-indexed
returns-in_err-reserve-5-clause-indexed c = IsIndexed-kept c.args.row.now _ c.requires.indexed c.reserve.ensures.grouped c.reserve.ensures.homes c.reserve-3.ensures.items c.reserve-4.ensures.items (c.reserve-4.ensures.len ∙ c.requires.indexed.as_many ∙ sym c.reserve-3.ensures.len) c.reserve-5.ensures.items refl

pub returns-in_err-reserve-5-clause-kept : goal.returns-in_err-reserve-5-clause-kept
returns-in_err-reserve-5-clause-kept c = HasRoom-kept c.args.row.now _ c.reserve-3.ensures.items c.reserve-3.ensures.len c.reserve-2.ensures.len c.reserve-3.ensures.capacity c.reserve-4.ensures.capacity c.reserve.ensures.kept

pub returns-in_err-reserve-6-clause-indexed : goal.returns-in_err-reserve-6-clause-indexed
returns-in_err-reserve-6-clause-indexed c = IsIndexed-kept c.args.row.now _ c.requires.indexed c.reserve.ensures.grouped c.reserve.ensures.homes c.reserve-3.ensures.items c.reserve-4.ensures.items (c.reserve-4.ensures.len ∙ c.requires.indexed.as_many ∙ sym c.reserve-3.ensures.len) c.reserve-5.ensures.items c.reserve-6.ensures.items

pub returns-in_err-reserve-6-clause-kept : goal.returns-in_err-reserve-6-clause-kept
returns-in_err-reserve-6-clause-kept c = HasRoom-kept c.args.row.now _ c.reserve-3.ensures.items c.reserve-3.ensures.len c.reserve-2.ensures.len c.reserve-3.ensures.capacity c.reserve-4.ensures.capacity c.reserve.ensures.kept

pub returns-clause-indexed : goal.returns-clause-indexed
returns-clause-indexed c = IsIndexed-kept c.args.row.now _ c.requires.indexed c.reserve.ensures.grouped c.reserve.ensures.homes c.reserve-3.ensures.items c.reserve-4.ensures.items (c.reserve-4.ensures.len ∙ c.requires.indexed.as_many ∙ sym c.reserve-3.ensures.len) c.reserve-5.ensures.items c.reserve-6.ensures.items

pub returns-clause-kept : goal.returns-clause-kept
returns-clause-kept c = λ m room. record {
  paid = omega (arith, room.paid, ap (λ bs. length (joined (items_of bs))) c.reserve-3.ensures.items, c.reserve-2.ensures.len, c.reserve-3.ensures.len, c.add_spares.ensures.kept);
  index = c.reserve.ensures.kept m room.index;
  blocks = omega (arith, c.in_ok-reserve-3.ensures.ok, c.capacity.ensures, c.reserve-3.ensures.len, c.add_spares.ensures.within);
  places = omega (arith, c.in_ok-reserve-4.ensures.ok, c.capacity-2.ensures, c.reserve-3.ensures.len, c.add_spares.ensures.within, c.requires.indexed.as_many);
  few = omega (arith, room.few, c.if-saturating_sub-more.false, c.saturating_sub.ensures, c.saturating_sub-most.ensures, c.len.ensures, c.len-2.ensures, c.reserve-2.ensures.len, c.reserve-3.ensures.len, c.add_spares.ensures.most);
}
