-- With the two rows in one, or with the second put in again, the paragraphs are the same.
use Rattle.std.proofs.Common.{◌≡◌, ℕ, ◌+◌, ◌<◌, List, [], ◌++◌, length, take, get_or, sym, ap, ap₂, ◌∙◌, arith}
use Rattle.std.proofs.lemmas.List.{take-set}
use Rattle.std.proofs.Math.Seq.{map-set_same}
use Rattle.std.specs.List.{concat, insert, remove}
use Rattle.std.specs.Prelude.{slice_set}
use Rattle.text_buffer.specs.declared.block.Block.{Block}
use Rattle.text_buffer.specs.Buffers.{bytes_in}
use Rattle.text_buffer.specs.Pieces.{points_in}
use Rattle.text_buffer.specs.Blocks.{rows_of, joined}
use Rattle.text_buffer.proofs.Joins.{joined-onto, taken-again, removed-before, within-less}
use Rattle.text_buffer.proofs.Places.{length-rows, row-at, rows-set, rows-remove, rows-insert, bytes-onto, if_ok}
use Rattle.text_buffer.proofs.rows.join_at.Goals as goal

-- what is left without the second of two blocks
record IsLess {K : Type 0} (old less : List (Block K)) (q : ℕ) (own next : Block K) : Type 0 where
  pub more : q + 1 < length (rows_of old)
  pub rows : rows_of less ≡ remove (rows_of old) (q + 1)
  pub own_is : get_or (remove (rows_of old) (q + 1)) q [] ≡ own.pieces.items
  pub next_is : get_or (rows_of old) (q + 1) [] ≡ next.pieces.items

module _ {K : Type 0} (old less : List (Block K)) (q : ℕ) (own next : Block K) where
  is-less : q + 1 < length old → less ≡ remove old (q + 1) → own ≡ get_or less q own → next ≡ get_or old (q + 1) next → IsLess old less q own next
  is-less there items own_at next_at =
      let more : q + 1 < length (rows_of old) = omega (arith, length-rows old, there) in
      let rows = ap rows_of items ∙ rows-remove old (q + 1) in
      let within : q < length less = omega (arith, within-less (rows_of old) q more, ap length rows, length-rows less) in
      record { more = more; rows = rows; own_is = ap (λ r. get_or r q []) (sym rows) ∙ row-at less q own within own_at; next_is = row-at old (q + 1) next there next_at }

  -- one with the paragraphs of both
  rows-onto : (new : Block K) → IsLess old less q own next → new.pieces.items ≡ own.pieces.items ++ next.pieces.items
      → rows_of (slice_set less q new) ≡ slice_set (remove (rows_of old) (q + 1)) q (get_or (remove (rows_of old) (q + 1)) q [] ++ get_or (rows_of old) (q + 1) [])
  rows-onto new i both = rows-set less q new ∙ ap₂ (λ r x. slice_set r q x) i.rows (both ∙ ap₂ (λ x y. x ++ y) (sym i.own_is) (sym i.next_is))

  -- both as they were
  rows-again : (now : List (Block K)) (new back : Block K) → IsLess old less q own next → own ≡ get_or less q own → new.pieces.items ≡ own.pieces.items → back.pieces.items ≡ next.pieces.items
      → now ≡ insert (slice_set less q new) (q + 1) back → rows_of now ≡ rows_of old
  rows-again now new back i own_at same back_is put =
      let pieces = λ (b : Block K). b.pieces.items in
      ap rows_of put ∙ rows-insert (slice_set less q new) (q + 1) back
      ∙ ap₂ (λ r x. insert r (q + 1) x) (map-set_same pieces less q new own (same ∙ ap pieces own_at) ∙ i.rows) (back_is ∙ sym i.next_is) ∙ taken-again (rows_of old) (q + 1) i.more

pub take_on-requires : goal.take_on-requires
take_on-requires g c =
    let old = c.args.blocks.now.items in
    let q = c.args.q in
    let there : q + 1 < length old = omega (arith, c.requires.next, c.args.blocks.now.ok) in
    let i = is-less old _ q c.index_mut.result.now c.remove-next.result there c.remove-next.ensures.items c.index_mut.ensures.value c.remove-next.ensures.value in
    record { few = omega (arith, ap (λ t. bytes_in (concat (points_in t))) i.own_is, ap (λ t. bytes_in (concat (points_in t))) i.next_is, bytes-onto (rows_of old) q i.more, c.requires.few) }

pub returns-in_default-clause-kept : goal.returns-in_default-clause-kept
returns-in_default-clause-kept g c =
    let old = c.args.blocks.now.items in
    let q = c.args.q in
    let there : q + 1 < length old = omega (arith, c.requires.next, c.args.blocks.now.ok) in
    let i = is-less old _ q c.index_mut.result.now c.remove-next.result there c.remove-next.ensures.items c.index_mut.ensures.value c.remove-next.ensures.value in
    ap joined (rows-onto old _ q c.index_mut.result.now c.remove-next.result c.take_on.new.self i c.in_default.ensures.ok) ∙ joined-onto (rows_of old) q i.more

pub returns-in_default-clause-front : goal.returns-in_default-clause-front
returns-in_default-clause-front g c =
    let old = c.args.blocks.now.items in
    let q = c.args.q in
    let there : q + 1 < length old = omega (arith, c.requires.next, c.args.blocks.now.ok) in
    let i = is-less old _ q c.index_mut.result.now c.remove-next.result there c.remove-next.ensures.items c.index_mut.ensures.value c.remove-next.ensures.value in
    ap (take q) (rows-onto old _ q c.index_mut.result.now c.remove-next.result c.take_on.new.self i c.in_default.ensures.ok) ∙ take-set (remove (rows_of old) (q + 1)) q _ ∙ removed-before (rows_of old) q i.more

pub returns-clause-kept : goal.returns-clause-kept
returns-clause-kept g c =
    let old = c.args.blocks.now.items in
    let q = c.args.q in
    let there : q + 1 < length old = omega (arith, c.requires.next, c.args.blocks.now.ok) in
    let i = is-less old _ q c.index_mut.result.now c.remove-next.result there c.remove-next.ensures.items c.index_mut.ensures.value c.remove-next.ensures.value in
    let room = c.insert.ensures.succeeds (omega (arith, c.remove-next.ensures.capacity, c.remove-next.ensures.len, c.args.blocks.now.ok)) in
    let put = if_ok c.insert.result c.insert.new.self.items _ _ room c.insert.ensures.items in
    ap joined (rows-again old _ q c.index_mut.result.now c.remove-next.result _ c.take_on.new.self c.in-Err.next i c.index_mut.ensures.value c.in-Err.ensures.err c.in-Err.ensures.back put)

pub returns-clause-front : goal.returns-clause-front
returns-clause-front g c =
    let old = c.args.blocks.now.items in
    let q = c.args.q in
    let there : q + 1 < length old = omega (arith, c.requires.next, c.args.blocks.now.ok) in
    let i = is-less old _ q c.index_mut.result.now c.remove-next.result there c.remove-next.ensures.items c.index_mut.ensures.value c.remove-next.ensures.value in
    let room = c.insert.ensures.succeeds (omega (arith, c.remove-next.ensures.capacity, c.remove-next.ensures.len, c.args.blocks.now.ok)) in
    let put = if_ok c.insert.result c.insert.new.self.items _ _ room c.insert.ensures.items in
    ap (take q) (rows-again old _ q c.index_mut.result.now c.remove-next.result _ c.take_on.new.self c.in-Err.next i c.index_mut.ensures.value c.in-Err.ensures.err c.in-Err.ensures.back put)
