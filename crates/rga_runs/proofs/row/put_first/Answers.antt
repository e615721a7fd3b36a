-- The goals of `put_first` that are answered by hand.
use Rattle.std.proofs.Common.{◌≡◌, ℕ, zero, suc, ◌<◌, ◌+◌, ◌*◌, ◌++◌, ◌∷◌, ◌∙◌, [], Some, cond, true, sym, ap, subst, refl, length, get_or, arith}
use Rattle.std.specs.Prelude.{All, slice_get, is_ok, vec_len}
use Rattle.std.specs.Option.{option_to_list}
use Rattle.std.proofs.lemmas.List.Elements.{All-cons, All-nil}
use Rattle.std.proofs.lemmas.List.{nil_from_length}
use Rattle.rga_runs.specs.declared.stretch.Stretch.{Stretch}
use Rattle.rga_runs.specs.Blocks.{row_of, AreHalfFull}
use Rattle.rga_runs.specs.BlockRows.{items_of, numbers_of}
use Rattle.rga_runs.specs.Sums.{AreSums}
use Rattle.rga_runs.specs.Keyed.{look_in}
use Rattle.rga_runs.specs.KeyRows.{keys_in}
use Rattle.rga_runs.specs.Indexed.{stretches_in, IsHome, AreHome, AreKnown}
use Rattle.rga_runs.proofs.Halves.{some_spare}
use Rattle.rga_runs.proofs.Known.{home_lone, known_insert}
use Rattle.rga_runs.proofs.Taken.{one_more}
use Rattle.rga_runs.proofs.row.put_first.Goals as goal

pub unwrap-stretches-requires : goal.unwrap-stretches-requires
unwrap-stretches-requires c =
    let r = c.args.row.now in
    let few : vec_len r.spares ≡ 0 → length (stretches_in r) < 128 * vec_len r.blocks = λ none. omega (arith, none, c.requires.room.paid (omega (arith, none))) in
    c.pop.ensures.variant.1 (some_spare (vec_len r.spares) (length (stretches_in r)) (vec_len r.blocks) few (omega (arith, c.requires.none)))

pub put-requires-clause-room : goal.put-requires-clause-room
put-requires-clause-room c = λ none. omega (arith, none, c.requires.indexed.keyed, c.requires.room.keys (omega (arith, none)))

pub returns : goal.returns
returns c =
    let r = c.args.row.now in
    let none : r.blocks.items ≡ [] = nil_from_length r.blocks.items (omega (arith, c.requires.none, r.blocks.ok)) in
    let block = c.lone-block.result in
    let e = c.lone-block.ensures.items in
    let s = e.0 in
    let ok : is_ok c.push.result ≡ true = ap is_ok c.unwrap.ensures in
    let blocks : c.push.new.self.items ≡ block ∷ [] = c.push.ensures.items ∙ (λ i. cond (ok i) (none i ++ block ∷ []) (none i)) in
    let items : items_of c.push.new.self.items ≡ (s ∷ []) ∷ [] = ap items_of blocks ∙ ap (λ l. l ∷ []) e.2 in
    let numbers : numbers_of c.push.new.self.items ≡ 0 ∷ [] = ap numbers_of blocks ∙ ap (λ k. k ∷ []) c.lone-block.ensures.number in
    let ok2 : is_ok c.push-2.result ≡ true = ap is_ok c.unwrap-2.ensures in
    let no_places : r.places.items ≡ [] = nil_from_length r.places.items (omega (arith, c.requires.none, c.requires.indexed.as_many, r.places.ok)) in
    let places : c.push-2.new.self.items ≡ 0 ∷ [] = c.push-2.ensures.items ∙ (λ i. cond (ok2 i) (no_places i ++ 0 ∷ []) (no_places i)) in
    let fewer : vec_len c.pop.new.self + 1 ≡ vec_len r.spares = omega (arith, c.pop.ensures.len, ap (λ o. length (option_to_list o)) c.unwrap-stretches.ensures) in
    let row_is : row_of (items_of c.push.new.self.items) ≡ s ∷ [] = ap row_of items in
    let nothing : row_of (items_of r.blocks.items) ≡ [] = ap (λ bs. row_of (items_of bs)) none in
    let before = ap length nothing in
    let after = ap length row_is in
    let one : vec_len c.push.new.self ≡ 1 = omega (arith, ap length blocks, c.push.new.self.ok) in
    let nothing_summed : length r.sums.items ≡ 0 = omega (arith, c.requires.indexed.sums.whole, ap (λ bs. length (items_of bs)) none) in
    let no_sums : AreSums r.sums.items (items_of c.push.new.self.items) = record { whole = omega (arith, nothing_summed); sums = λ g d less. absurd (omega (arith, nothing_summed, less)) } in
    let look = look_in (keys_in c.put.new.keys) in
    let old_look = look_in (keys_in r.keys) in
    let own : IsHome look 0 s = home_lone look (keys_in r.keys) c.args.id 0 s c.put.ensures.looks e.1.first e.1.count in
    let homes : AreHome look ((s ∷ []) ∷ []) (0 ∷ []) = all_home (IsHome look) s own in
    record {
      row = (s, e.1, row_is);
      indexed = record {
        homes = subst (λ xs. AreHome look xs (numbers_of c.push.new.self.items)) (sym items) (subst (AreHome look ((s ∷ []) ∷ [])) (sym numbers) homes);
        known = subst (AreKnown look) (sym row_is) (known_insert look old_look c.args.id 0 [] 0 s c.put.ensures.looks e.1.first (subst (AreKnown old_look) nothing c.requires.indexed.known));
        places = λ p less. (λ i. slice_get (places i) (get_or (numbers i) p 0)) ∙ lone p (omega (arith, less, ap length blocks));
        as_many = omega (arith, ap length places, ap length blocks, c.push.new.self.ok, c.push-2.new.self.ok);
        keyed = omega (arith, c.put.ensures.len, c.requires.indexed.keyed, before, after);
        counted = omega (arith, after);
        halves = subst AreHalfFull (sym items) (λ q less. absurd (omega (arith, less)));
        bounds = λ p d less. absurd (omega (arith, ap length c.clear.ensures.items, less));
        sums = no_sums;
        few = omega (arith, one);
      };
      room = one_more c.args.row.now _ (omega (arith, before, after)) (λ n room. record {
        paid = λ few. omega (arith, room.paid (omega (arith, few, fewer)), before, after, one, fewer, c.requires.none);
        keys = λ few. omega (arith, room.keys (omega (arith, few, c.put.ensures.spares)), before, after, c.put.ensures.room);
        blocks = omega (arith, room.blocks, c.push.ensures.capacity, one, fewer, c.requires.none);
        places = omega (arith, room.places, c.push-2.ensures.capacity, one, fewer, c.requires.none);
        few = omega (arith, room.few, one, fewer, c.requires.none);
      });
    } where
      lone : (p : ℕ) → p < 1 → slice_get (0 ∷ []) (get_or (0 ∷ []) p 0) ≡ Some p
      lone zero h = refl
      lone (suc p) h = absurd (omega (arith, h))

      all_home : (P : ℕ → Stretch → Type 0) (s : Stretch) → P 0 s → (b : ℕ) → b < 1 → All (P (get_or (0 ∷ []) b 0)) (get_or ((s ∷ []) ∷ []) b [])
      all_home P s is zero less = All-cons (P 0) s [] is (All-nil (P 0))
      all_home P s is (suc b) less = absurd (omega (arith, less))
