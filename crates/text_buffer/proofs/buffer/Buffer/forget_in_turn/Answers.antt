-- The texts are the same, and less is kept.
use Rattle.std.proofs.Common.{map, sym, ap, subst, ◌∙◌, arith}
use Rattle.text_buffer.specs.declared.spared.Spared.{Spared}
use Rattle.text_buffer.specs.Buffers.{paragraphs_in, kept_in}
use Rattle.text_buffer.specs.Pieces.{points_in, kept_of}
use Rattle.text_buffer.specs.Blocks.{rows_of, pieces_in, texts_in, seen_in}
use Rattle.text_buffer.specs.Counted.{IsCounted}
use Rattle.text_buffer.specs.Forgetting.{left_of}
use Rattle.text_buffer.proofs.Counted.{counted-same}
use Rattle.text_buffer.proofs.Places.{seen-points, seen-kept, stands-alike, written}
use Rattle.text_buffer.proofs.buffer.Buffer.forget_in_turn.Goals as goal

pub invariant_of-self : goal.invariant_of-self
invariant_of-self g c =
    let bs = c.self.inside.blocks.items in
    let e = c.deref_mut.ensures.value in
    let new = c.forget_but.new.blocks in
    let texts = c.forget_but.ensures.texts ∙ ap texts_in e in
    let all = written new bs c.self.inside.blocks.len (omega (arith, c.forget_but.auto.blocks, c.deref_mut.ensures.len)) (omega (arith, c.self.inside.blocks.ok)) in
    let rows = c.forget_but.ensures.rows ∙ ap (λ x. map points_in (rows_of x)) e in
    subst (λ x. IsCounted x c.self.inside.bytes c.self.inside.places c.self.inside.paragraphs c.self.inside.near) (sym all)
    (counted-same bs new _ _ _ _ _ texts (stands-alike bs new c.self.inside.near c.self.invariant.near_is rows) c.self.invariant)

pub returns-clause-paragraphs : goal.returns-clause-paragraphs
returns-clause-paragraphs g c =
    let bs = c.self.inside.blocks.items in
    let e = c.deref_mut.ensures.value in
    let new = c.forget_but.new.blocks in
    let texts = c.forget_but.ensures.texts ∙ ap texts_in e in
    let all = written new bs c.self.inside.blocks.len (omega (arith, c.forget_but.auto.blocks, c.deref_mut.ensures.len)) (omega (arith, c.self.inside.blocks.ok)) in
    ap (λ x. paragraphs_in (seen_in x)) all ∙ seen-points (pieces_in new) ∙ texts ∙ sym (seen-points (pieces_in bs)) ∙ ap paragraphs_in c.self.view_is

pub returns-clause-kept : goal.returns-clause-kept
returns-clause-kept g c =
    let bs = c.self.inside.blocks.items in
    let e = c.deref_mut.ensures.value in
    let new = c.forget_but.new.blocks in
    let all = written new bs c.self.inside.blocks.len (omega (arith, c.forget_but.auto.blocks, c.deref_mut.ensures.len)) (omega (arith, c.self.inside.blocks.ok)) in
    let view = sym (seen-kept (pieces_in bs)) ∙ ap kept_in c.self.view_is in
    let spared : Spared = record { from = c.args.from; to = c.args.to; step = c.args.step; turn = c.args.turn } in
    ap (λ x. kept_in (seen_in x)) all ∙ seen-kept (pieces_in new) ∙ c.forget_but.ensures.kept ∙ ap (λ x. left_of spared 0 (kept_of (pieces_in x))) e
    ∙ ap (left_of spared 0) view
