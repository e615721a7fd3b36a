-- The texts are the same, and what is kept is written at the paragraph.
use Rattle.std.proofs.Common.{◌≡◌, ℕ, ◌+◌, ◌-◌, ◌<◌, List, [], Some, length, map, take, get_or, sym, ap, subst, ◌∙◌, arith}
use Rattle.std.proofs.Math.Seq.{map-set_same}
use Rattle.std.specs.Prelude.{slice_set}
use Rattle.text_buffer.specs.declared.piece.Piece.{Piece}
use Rattle.text_buffer.specs.declared.block.Block.{Block}
use Rattle.text_buffer.specs.declared.find.Before.{Before}
use Rattle.text_buffer.specs.Buffers.{paragraphs_in, kept_in}
use Rattle.text_buffer.specs.Pieces.{points_of, points_in, kept_of}
use Rattle.text_buffer.specs.Blocks.{rows_of, joined, pieces_in, texts_in}
use Rattle.text_buffer.specs.Places.{IsBlockOf}
use Rattle.text_buffer.proofs.Counted.{counted-same}
use Rattle.text_buffer.proofs.Joins.{joined-same, joined-written}
use Rattle.text_buffer.proofs.Places.{length-rows, length-points, row-at, rows-set, seen-points, seen-kept, stands-alike}
use Rattle.text_buffer.proofs.buffer.Buffer.keep.Goals as goal

-- one block in which a value is kept beside this paragraph, and the texts are the same
record IsKept {K : Type 0} (old new : List (Block K)) (number : ℕ) (value : K) : Type 0 where
  pub rows : map points_in (rows_of new) ≡ map points_in (rows_of old)
  pub texts : texts_in new ≡ texts_in old
  pub kept : kept_of (pieces_in new) ≡ slice_set (kept_of (pieces_in old)) number (Some value)

is-kept : {K : Type 0} (bs : List (Block K)) (b : Before) (number : ℕ) (own new : Block K) (value : K) → IsBlockOf bs b number → own ≡ get_or bs b.block own
    → points_in new.pieces.items ≡ points_in own.pieces.items → kept_of new.pieces.items ≡ slice_set (kept_of own.pieces.items) (number - b.paragraphs) (Some value)
    → IsKept bs (slice_set bs b.block new) number value
is-kept {K} bs b number own new value at own_is points kept =
    let q = b.block in
    let i = number - b.paragraphs in
    let rows = rows_of bs in
    let ps = new.pieces.items in
    let row = row-at bs q own at.stands.within own_is in
    let within : q < length rows = omega (arith, length-rows bs, at.stands.within) in
    let front = joined (take q rows) in
    let number_is : length front + i ≡ number = omega (arith, at.stands.paragraphs, length-points front, at.reached) in
    record {
      rows = ap (map points_in) (rows-set bs q new) ∙ map-set_same points_in rows q ps [] (points ∙ sym (ap points_in row));
      texts = ap (λ r. points_in (joined r)) (rows-set bs q new) ∙ joined-same points_of rows q ps within (points ∙ sym (ap points_in row));
      kept =
          ap (λ r. kept_of (joined r)) (rows-set bs q new)
          ∙ joined-written (λ (p : Piece K). p.kept) rows q i ps (Some value) within (omega (arith, at.here, at.reached)) (kept ∙ sym (ap (λ r. slice_set (kept_of r) i (Some value)) row))
          ∙ ap (λ n. slice_set (kept_of (pieces_in bs)) n (Some value)) number_is;
    }

pub index_mut-requires : goal.index_mut-requires
index_mut-requires g c =
    let b = subst (λ all. IsBlockOf all c.block_near-before.result c.args.number) c.deref.ensures.value c.block_near-before.ensures in
    omega (arith, b.stands.within, c.self.inside.blocks.ok)

pub keep-requires : goal.keep-requires
keep-requires g c =
    let bs = c.self.inside.blocks.items in
    let b = subst (λ all. IsBlockOf all c.block_near-before.result c.args.number) c.deref.ensures.value c.block_near-before.ensures in
    let own = row-at bs c.block_near-before.result.block c.index_mut.result.now b.stands.within c.index_mut.ensures.value in
    omega (arith, b.here, b.reached, ap length own)

pub invariant_of-self : goal.invariant_of-self
invariant_of-self g c =
    let bs = c.self.inside.blocks.items in
    let b = subst (λ all. IsBlockOf all c.block_near-before.result c.args.number) c.deref.ensures.value c.block_near-before.ensures in
    let k = is-kept bs c.block_near-before.result c.args.number c.index_mut.result.now c.keep.new.self c.args.value b c.index_mut.ensures.value c.keep.ensures.points c.keep.ensures.kept in
    counted-same bs _ _ _ _ _ _ k.texts (stands-alike bs _ c.self.inside.near c.self.invariant.near_is k.rows) c.self.invariant

pub returns-clause-paragraphs : goal.returns-clause-paragraphs
returns-clause-paragraphs g c =
    let bs = c.self.inside.blocks.items in
    let b = subst (λ all. IsBlockOf all c.block_near-before.result c.args.number) c.deref.ensures.value c.block_near-before.ensures in
    let k = is-kept bs c.block_near-before.result c.args.number c.index_mut.result.now c.keep.new.self c.args.value b c.index_mut.ensures.value c.keep.ensures.points c.keep.ensures.kept in
    seen-points (pieces_in (slice_set bs c.block_near-before.result.block c.keep.new.self)) ∙ k.texts ∙ sym (seen-points (pieces_in bs)) ∙ ap paragraphs_in c.self.view_is

pub returns-clause-kept : goal.returns-clause-kept
returns-clause-kept g c =
    let bs = c.self.inside.blocks.items in
    let b = subst (λ all. IsBlockOf all c.block_near-before.result c.args.number) c.deref.ensures.value c.block_near-before.ensures in
    let k = is-kept bs c.block_near-before.result c.args.number c.index_mut.result.now c.keep.new.self c.args.value b c.index_mut.ensures.value c.keep.ensures.points c.keep.ensures.kept in
    seen-kept (pieces_in (slice_set bs c.block_near-before.result.block c.keep.new.self)) ∙ k.kept
    ∙ ap (λ x. slice_set x c.args.number (Some c.args.value)) (sym (seen-kept (pieces_in bs)) ∙ ap kept_in c.self.view_is)
