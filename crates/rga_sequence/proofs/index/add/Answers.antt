-- The goals of `add` that are answered by hand.
use Rattle.std.proofs.Common.{◌≡◌, ℕ, ◌<◌, ◌+◌, ◌++◌, ◌∙◌, Some, cond, false, ap, length, length-append, replicate, arith}
use Rattle.std.specs.Prelude.{is_some}
use Rattle.std.specs.HashMap.{get, hash_map_len}
use Rattle.bg_types.specs.Identifier.{Identifier, same_id}
use Rattle.rga_sequence.specs.Grouped.{group_of, home_at}
use Rattle.rga_sequence.proofs.Groups.{all_empty, home_at-added, added_within, added_apart, added_there}
use Rattle.rga_sequence.proofs.Homes.{id_eq, put_home}
use Rattle.rga_sequence.proofs.index.add.Goals as goal

pub returns-clause-homes : goal.returns-clause-homes
returns-clause-homes c = λ q.
    let groups = c.args.index.now.groups in
    let ns = c.args.index.now.numbers.items in
    let g = c.args.group in
    let place = c.len-place.result in
    let none = c.requires.new in
    let updates = rw c.unwrap.ensures at c.insert-kept.ensures.updates in
    let items : c.extend_from_slice.new.self.items ≡ ns ++ replicate 8 0 = rw c.unwrap-2.ensures at c.extend_from_slice.ensures.items in
    (λ i. home_at (items i) q ((updates.0 (group_of q) ∙ put_home g (group_of q) place (get id_eq groups (group_of q))) i))
    ∙ home_at-added ns (replicate 8 0) q g place (get id_eq groups) (all_empty 8) (omega (arith, c.requires.grouped.sized, c.len-place.ensures.len)) none

pub returns-clause-grouped : goal.returns-clause-grouped
returns-clause-grouped c =
    let groups = c.args.index.now.groups in
    let ns = c.args.index.now.numbers.items in
    let g = c.args.group in
    let place = c.len-place.result in
    let old = c.requires.grouped in
    let none = c.requires.new in
    let updates = rw c.unwrap.ensures at c.insert-kept.ensures.updates in
    let was = rw c.unwrap.ensures at c.insert-kept.ensures.old in
    let len = rw c.unwrap.ensures at c.insert-kept.ensures.len in
    let new_one : is_some c.unwrap.result ≡ false = ap is_some (was ∙ none) in
    let longer : hash_map_len c.insert-kept.new.self ≡ hash_map_len groups + 1 = len ∙ ap (λ b. hash_map_len groups + cond b 0 1) new_one in
    let items : c.extend_from_slice.new.self.items ≡ ns ++ replicate 8 0 = rw c.unwrap-2.ensures at c.extend_from_slice.ensures.items in
    let now = get id_eq c.insert-kept.new.self in
    let one_more : (k : Identifier) → now k ≡ cond (same_id k g) (Some place) (get id_eq groups k) = λ k. updates.0 k ∙ put_home g k place (get id_eq groups k) in
    let below : (k : Identifier) (p : ℕ) → get id_eq groups k ≡ Some p → p < place = λ k p is. omega (arith, old.within k p is, c.len-place.ensures.len) in
    record {
      sized = omega (arith, ap length items, length-append ns (replicate 8 0), longer, old.sized);
      within = λ k p is. omega (arith, added_within (get id_eq groups) now g place one_more below k p is, longer, c.len-place.ensures.len);
      apart = added_apart (get id_eq groups) now g place one_more below old.apart;
      recent = λ k p is. added_there (get id_eq groups) now g place one_more none k p (old.recent k p is);
    }
