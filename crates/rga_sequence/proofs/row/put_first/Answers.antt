-- The goals of `put_first` that are answered by hand.
use Rattle.std.proofs.Common.{◌≡◌, ℕ, zero, suc, ◌<◌, ◌+◌, ◌++◌, ◌∷◌, ◌∙◌, [], List, Some, None, cond, true, sym, ap, subst, refl, length, get_or, arith}
use Rattle.std.specs.Prelude.{slice_get, is_ok, vec_len}
use Rattle.std.specs.Option.{option_to_list}
use Rattle.std.proofs.lemmas.List.{nil_from_length}
use Rattle.bg_types.specs.Identifier.{same_id}
use Rattle.rga_tree.specs.declared.element.Element.{Element}
use Rattle.rga_sequence.specs.declared.block.Block.{Block}
use Rattle.rga_sequence.specs.Blocks.{joined}
use Rattle.rga_sequence.specs.BlockRows.{items_of, numbers_of, home_of, AreHalfFull}
use Rattle.rga_sequence.specs.Grouped.{home_in}
use Rattle.rga_sequence.specs.Sums.{AreSums}
use Rattle.rga_sequence.proofs.Homes.{id_eq, or_false}
use Rattle.rga_sequence.proofs.row.put_first.Goals as goal

pub returns : goal.returns
returns c =
    let e : Element = record { id = c.args.id; parent = c.args.parent; ch = c.args.ch; hidden = c.args.hidden } in
    let none : c.args.row.now.blocks.items ≡ [] = nil_from_length c.args.row.now.blocks.items (omega (arith, c.requires.none, c.args.row.now.blocks.ok)) in
    let block = c.lone-block.result in
    let ok : is_ok c.push.result ≡ true = ap is_ok c.unwrap.ensures in
    let blocks : c.push.new.self.items ≡ block ∷ [] = c.push.ensures.items ∙ (λ i. cond (ok i) (none i ++ block ∷ []) (none i)) in
    let items : items_of c.push.new.self.items ≡ (e ∷ []) ∷ [] = ap items_of blocks ∙ ap (λ r. r ∷ []) c.lone-block.ensures.items in
    let numbers : numbers_of c.push.new.self.items ≡ 0 ∷ [] = ap numbers_of blocks ∙ ap (λ k. k ∷ []) c.lone-block.ensures.number in
    let ok2 : is_ok c.push-2.result ≡ true = ap is_ok c.unwrap-2.ensures in
    let no_places : c.args.row.now.places.items ≡ [] = nil_from_length c.args.row.now.places.items (omega (arith, c.requires.none, c.requires.indexed.as_many, c.args.row.now.places.ok)) in
    let places : c.push-2.new.self.items ≡ 0 ∷ [] = c.push-2.ensures.items ∙ (λ i. cond (ok2 i) (no_places i ++ 0 ∷ []) (no_places i)) in
    let gone : (k : _) → home_in id_eq c.args.row.now.index k ≡ None = λ k. c.requires.indexed.homes k ∙ ap (λ (bs : List Block). home_of (items_of bs) (numbers_of bs) k) none in
    let fewer : vec_len c.pop.new.self + 1 ≡ vec_len c.args.row.now.spares = omega (arith, c.pop.ensures.len, ap (λ o. length (option_to_list o)) c.unwrap-elements.ensures) in
    let before = ap (λ (bs : List Block). length (joined (items_of bs))) none in
    let after = ap (λ xs. length (joined xs)) items in
    let few : length c.args.row.now.sums.items ≡ 0 = omega (arith, c.requires.indexed.sums.whole, ap (λ bs. length (items_of bs)) none) in
    let no_sums : AreSums c.args.row.now.sums.items (items_of c.push.new.self.items) = record { whole = omega (arith, few); sums = λ g d less. absurd (omega (arith, few, less)) } in
    let one : vec_len c.push.new.self ≡ 1 = omega (arith, ap length blocks, c.push.new.self.ok) in
    record {
      elements = ap joined items;
      indexed = record {
        grouped = c.put.ensures.grouped;
        homes = λ k. c.put.ensures.homes k ∙ ap (cond (same_id k c.args.id) (Some 0)) (gone k)
            ∙ ap (λ b. cond b (Some 0) None) (sym (or_false (same_id k c.args.id))) ∙ (λ i. home_of (sym items i) (sym numbers i) k);
        places = λ p less. (λ i. slice_get (places i) (get_or (numbers i) p 0)) ∙ lone p (omega (arith, less, ap length blocks));
        as_many = omega (arith, ap length places, ap length blocks, c.push.new.self.ok, c.push-2.new.self.ok);
        halves = subst AreHalfFull (sym items) (λ many. absurd (omega (arith, many)));
        bounds = λ p d h. absurd (omega (arith, ap length c.clear.ensures.items, h));
        sums = no_sums;
      };
      room = λ n room. record {
        paid = omega (arith, room.paid, before, after, one, fewer, c.requires.none);
        index = c.put.ensures.room n room.index;
        blocks = omega (arith, room.blocks, c.push.ensures.capacity, one, fewer, c.requires.none);
        places = omega (arith, room.places, c.push-2.ensures.capacity, one, fewer, c.requires.none);
        few = omega (arith, room.few, one, fewer, c.requires.none);
      };
    } where
      lone : (p : ℕ) → p < 1 → slice_get (0 ∷ []) (get_or (0 ∷ []) p 0) ≡ Some p
      lone zero h = refl
      lone (suc p) h = absurd (omega arith)
