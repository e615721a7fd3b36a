-- Where an identifier stands among stretches.
use Rattle.std.proofs.Common.{◌≡◌, ℕ, suc, ◌<◌, ◌≤◌, ◌+◌, true, false, List, [], length, take, drop, get_or, refl, sym, ap, subst, ◌∙◌, arith}
use Rattle.std.specs.Ordering.{is_lt}
use Rattle.std.specs.List.{prefix_len}
use Rattle.std.specs.Prelude.{Option, Some, None, is_some, All, IfSome, set, vec_len}
use Rattle.std.proofs.lemmas.List.{get_or_default}
use Rattle.bg_types.specs.Identifier.{Identifier, id_cmp}
use Rattle.bg_types.specs.declared.op.Place.{Place}
use Rattle.bg_types.proofs.Interface.{id_cmp-total}
use Rattle.rga_tree.specs.KeepsWalk.{KeepsWalk}
use Rattle.rga_tree.specs.Row.{place_of}
use Rattle.rga_tree.proofs.Interface.{later-less, less_of, place_behind_sibling, until, is_greater, get_or_joined, offset_less}
use Rattle.rga_tree.specs.declared.element.Element.{Element}
use Rattle.rga_tree.specs.Spot.{joined, offset}
use Rattle.rga_runs.specs.declared.stretch.Stretch.{Stretch}
use Rattle.rga_runs.specs.declared.block.Block.{Block}
use Rattle.rga_runs.specs.declared.row.Row.{Row}
use Rattle.rga_runs.specs.Changed.{IsHidden}
use Rattle.rga_runs.specs.Typed.{later, is_odd, bits_from}
use Rattle.rga_runs.specs.Stretches.{characters_of, elements_of, parts_in, elements_in, are_stored, IsOutside, AreApart}
use Rattle.rga_runs.specs.Blocks.{row_of, at_spot}
use Rattle.rga_runs.specs.BlockRows.{items_of}
use Rattle.rga_runs.specs.Indexed.{stretches_in, HasRoom}
use Rattle.rga_runs.proofs.Apart.{outside_others}
use Rattle.rga_runs.proofs.BlockLists.{length-items, items_at}
use Rattle.rga_runs.proofs.Chunks.{get_or_row, at_less, one_there, item_parts}
use Rattle.rga_runs.proofs.Typed.{later-none}
use Rattle.rga_runs.proofs.Places.{hide_part, passed_part}
use Rattle.rga_runs.proofs.Rows.{element_at, some_of_get, rest_passes, length-parts, part_long, part_there, parts_set, stored_at, stored_le, stored_is, stored_set, spot_until, hidden_at, hidden_part}

-- character k of stretch p has this identifier
pub record StandsAt (ss : List Stretch) (p k : ℕ) (q : Identifier) : Type 0 where
  pub there : p < length ss
  pub inside : (d : Stretch) → k < (get_or ss p d).count
  pub is : (d : Stretch) → q ≡ later (get_or ss p d).first k

pub stands_at : (xs : List (List Stretch)) (b j k : ℕ) (q : Identifier) → b < length xs → j < length (get_or xs b []) → ((d : Stretch) → k < (get_or (get_or xs b []) j d).count)
    → ((d : Stretch) → q ≡ later (get_or (get_or xs b []) j d).first k) → StandsAt (row_of xs) (at_spot xs b j) k q
stands_at xs b j k q block within inside is =
    let item = λ (d : Stretch). get_or_row xs b j d block within in
    record {
      there = at_less xs b j block within;
      inside = λ d. subst (λ (s : Stretch). k < s.count) (sym (item d)) (inside d);
      is = λ d. subst (λ (s : Stretch). q ≡ later s.first k) (sym (item d)) (is d);
    }

-- where it was found
pub spot_there : (r : Row) (o : Option (ℕ × ℕ × ℕ)) (v : ℕ × ℕ × ℕ) → o ≡ Some v → IfSome o (λ s. s.0 < vec_len r.blocks) → v.0 < length (items_of r.blocks.items)
spot_there r o v is block = omega (arith, subst (λ z. IfSome z (λ s. s.0 < vec_len r.blocks)) is block, length-items r.blocks.items, r.blocks.ok)

pub spot_stands : (r : Row) (q : Identifier) (o : Option (ℕ × ℕ × ℕ)) (v : ℕ × ℕ × ℕ) → o ≡ Some v → IfSome o (λ s. s.0 < vec_len r.blocks)
    → IfSome o (λ s. s.1 < length (get_or (items_of r.blocks.items) s.0 []))
    → IfSome o (λ s. (d : Stretch) → s.2 < (get_or (get_or (items_of r.blocks.items) s.0 []) s.1 d).count)
    → IfSome o (λ s. (d : Stretch) → q ≡ later (get_or (get_or (items_of r.blocks.items) s.0 []) s.1 d).first s.2)
    → StandsAt (stretches_in r) (at_spot (items_of r.blocks.items) v.0 v.1) v.2 q
spot_stands r q o v is block within inside there =
    stands_at (items_of r.blocks.items) v.0 v.1 v.2 q (spot_there r o v is block)
    (subst (λ z. IfSome z (λ s. s.1 < length (get_or (items_of r.blocks.items) s.0 []))) is within)
    (subst (λ z. IfSome z (λ s. (d : Stretch) → s.2 < (get_or (get_or (items_of r.blocks.items) s.0 []) s.1 d).count)) is inside)
    (subst (λ z. IfSome z (λ s. (d : Stretch) → q ≡ later (get_or (get_or (items_of r.blocks.items) s.0 []) s.1 d).first s.2)) is there)

-- so not all stretches lack it
pub stands_somewhere : (ss : List Stretch) (p k : ℕ) (q : Identifier) → StandsAt ss p k q → All (IsOutside q) ss → ⊥
stands_somewhere ss p k q at out = let d = one_there ss p at.there in out p d at.there k (at.inside d) (at.is d)

pub found_somewhere : (r : Row) (q : Identifier) (o : Option (ℕ × ℕ × ℕ)) → is_some o ≡ true → IfSome o (λ s. s.0 < vec_len r.blocks) → IfSome o (λ s. s.1 < length (get_or (items_of r.blocks.items) s.0 []))
    → IfSome o (λ s. (d : Stretch) → s.2 < (get_or (get_or (items_of r.blocks.items) s.0 []) s.1 d).count)
    → IfSome o (λ s. (d : Stretch) → q ≡ later (get_or (get_or (items_of r.blocks.items) s.0 []) s.1 d).first s.2)
    → All (IsOutside q) (stretches_in r) → ⊥
found_somewhere r q None some block within inside there = absurd cc
found_somewhere r q (Some v) some block within inside there =
    stands_somewhere (stretches_in r) (at_spot (items_of r.blocks.items) v.0 v.1) v.2 q (spot_stands r q (Some v) v refl block within inside there)

-- a stretch that was read
pub read_stretch : (bs : List Block) (b j : ℕ) (x : Block) (s d : Stretch) → b < length bs → j < length (get_or (items_of bs) b []) → x ≡ get_or bs b x → s ≡ get_or x.stretches.items j s → s ≡ get_or (get_or (items_of bs) b []) j d
read_stretch bs b j x s d there within block is =
    let here = items_at bs b x there block in
    is ∙ ap (λ (l : List Stretch). get_or l j s) (sym here) ∙ get_or_default (get_or (items_of bs) b []) j s d within

pub read_row : (bs : List Block) (b j : ℕ) (x : Block) (s d : Stretch) → b < length bs → j < length (get_or (items_of bs) b []) → x ≡ get_or bs b x → s ≡ get_or x.stretches.items j s → s ≡ get_or (row_of (items_of bs)) (at_spot (items_of bs) b j) d
read_row bs b j x s d there within block is =
    read_stretch bs b j x s d there within block is ∙ sym (get_or_row (items_of bs) b j d (omega (arith, there, length-items bs)) within)

-- so it stands at this place among the elements
pub place_is : (q : Identifier) (chars : List ℕ) (ss : List Stretch) (p k : ℕ) → are_stored (length chars) ss ≡ true → AreApart ss → StandsAt ss p k q → offset (parts_in chars ss) p k ≡ until q (elements_in chars ss)
place_is q chars ss p k stored apart at =
    let d = one_there ss p at.there in
    let s = get_or ss p d in
    let parts = item_parts ss p s at.there (get_or_default ss p d s at.there) in
    let others = outside_others (take p ss) (drop (suc p) ss) s k (subst AreApart parts apart) (at.inside d) in
    spot_until q chars ss p k d stored at.there (at.inside d) (at.is d) (subst (λ z. All (IsOutside z) (take p ss)) (sym (at.is d)) others.0)

pub part_within : (chars : List ℕ) (ss : List Stretch) (p k : ℕ) (d : Stretch) → are_stored (length chars) ss ≡ true → p < length ss → k < (get_or ss p d).count → k < length (get_or (parts_in chars ss) p [])
part_within chars ss p k d stored there inside = omega (arith, part_long chars ss p d stored there, inside)

-- whether it is hidden
pub hidden_there : (chars : List ℕ) (ss : List Stretch) (p k : ℕ) (s : Stretch) (d : Element) → are_stored (length chars) ss ≡ true → p < length ss → k < (get_or ss p s).count
    → (get_or (elements_in chars ss) (offset (parts_in chars ss) p k) d).hidden ≡ is_odd (bits_from k (get_or ss p s).hidden)
hidden_there chars ss p k s d stored there inside =
    let xs = parts_in chars ss in
    let some : p < length xs = omega (arith, length-parts chars ss, there) in
    ap (λ (e : Element). e.hidden) (get_or_joined xs p k d some (part_within chars ss p k s stored there inside))
    ∙ ap (λ (es : List Element). (get_or es k d).hidden) (part_there chars ss p s there) ∙ hidden_at chars (get_or ss p s) k d (stored_at (length chars) ss p s stored there) inside

-- it is hidden now
pub hidden_row : (chars : List ℕ) (ss : List Stretch) (p k : ℕ) (s new : Stretch) (d : Element) → are_stored (length chars) ss ≡ true → p < length ss → k < (get_or ss p s).count → is_odd (bits_from k (get_or ss p s).hidden) ≡ false
    → IsHidden (get_or ss p s) new k
    → elements_in chars (set ss p new) ≡ set (elements_in chars ss) (offset (parts_in chars ss) p k) (record (get_or (elements_in chars ss) (offset (parts_in chars ss) p k) d) { hidden = true })
hidden_row chars ss p k s new d stored there inside visible is =
    let xs = parts_in chars ss in
    let some : p < length xs = omega (arith, length-parts chars ss, there) in
    let part = hidden_part chars (get_or ss p s) new k d (stored_at (length chars) ss p s stored there) inside visible is in
    ap joined (parts_set chars ss p new ∙ ap (set xs p) (part ∙ ap (λ (es : List Element). set es k (record (get_or es k d) { hidden = true })) (sym (part_there chars ss p s there))))
    ∙ hide_part xs p k d some (part_within chars ss p k s stored there inside)

-- a stretch that has its characters where another had them
pub stored_same : (n : ℕ) (ss : List Stretch) (p : ℕ) (d new : Stretch) → are_stored n ss ≡ true → p < length ss → new.start ≡ (get_or ss p d).start → new.count ≡ (get_or ss p d).count → are_stored n (set ss p new) ≡ true
stored_same n ss p d new stored there start count =
    stored_set n ss p new stored (stored_is n new (omega (arith, start, count, stored_le n (get_or ss p d) (stored_at n ss p d stored there))))

-- room for fewer
pub less_room : (r : Row) (m n : ℕ) → n ≤ m → HasRoom r m → HasRoom r n
less_room r m n few room = record {
  paid = λ less. omega (arith, few, less, room.paid (omega (arith, few, less)));
  keys = λ less. omega (arith, few, less, room.keys (omega (arith, few, less)));
  blocks = room.blocks;
  places = room.places;
  few = room.few;
}

-- behind a stretch that begins with a greater child of the parent
pub behind_greater : (parent : Place) (id : Identifier) (chars : List ℕ) (ss : List Stretch) (p : ℕ) (d : Stretch) → are_stored (length chars) ss ≡ true → KeepsWalk (elements_in chars ss) → p < length ss
    → (get_or ss p d).parent ≡ parent → is_lt (id_cmp id (get_or ss p d).first) ≡ true
    → length (joined (take (p + 1) (parts_in chars ss))) + prefix_len (is_greater id) (joined (drop (p + 1) (parts_in chars ss))) ≡ place_of parent id (elements_in chars ss)
behind_greater parent id chars ss p d stored keeps there same greater =
    let s = get_or ss p d in
    let ys = parts_in chars ss in
    let es = elements_in chars ss in
    let some : 0 < s.count = s.some in
    let deep : p < length ys = omega (arith, length-parts chars ss, there) in
    let within : 0 < length (get_or ys p []) = part_within chars ss p 0 d stored there some in
    let sibling : Element = record { id = later s.first 0; parent = s.parent; ch = get_or (characters_of chars s) 0 0; hidden = is_odd s.hidden } in
    let is : get_or es (offset ys p 0) sibling ≡ sibling =
    get_or_joined ys p 0 sibling deep within ∙ ap (λ (l : List Element). get_or l 0 sibling) (part_there chars ss p d there)
    ∙ some_of_get (elements_of chars s) 0 sibling sibling (element_at chars s 0 (stored_at (length chars) ss p d stored there) some) in
    let first : is_lt (id_cmp id sibling.id) ≡ true = ap (λ q. is_lt (id_cmp id q)) (later-none s.first) ∙ greater in
    let second : is_lt (id_cmp id (later s.first 1)) ≡ true = ap is_lt (id_cmp-total.trans id s.first (later s.first 1) (less_of (id_cmp id s.first) greater) (later-less s.first)) in
    passed_part id ys p 0 deep within (rest_passes id chars ss p 1 d stored there (λ more. second))
    ∙ sym (place_behind_sibling es keeps (offset ys p 0) sibling id (offset_less ys p 0 deep within) (sym is) first)
    ∙ ap (λ (q : Place). place_of q id es) same
