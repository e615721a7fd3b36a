-- The goals of `read_listing` that are answered by hand.
use Rattle.std.proofs.Common.{◌+◌, ◌∷◌, [], List, sym, subst, arith}
use Rattle.std.proofs.lemmas.List.{append-nil}
use Rattle.bg_types.specs.declared.op.OpView.{OpView}
use Rattle.op_listing.proofs.ReadLines.{IsReadTo, one_line_read}
use Rattle.op_listing.proofs.listing.read_listing.Goals as goal

pub loop-rest-preserved-in_ok-push-in-Ok-Some : goal.loop-rest-preserved-in_ok-push-in-Ok-Some
loop-rest-preserved-in_ok-push-in-Ok-Some c =
    let kept = c.loop-rest.invariant in
    let first = c.split_line.ensures.lines in
    let shorter = c.split_line.ensures.shorter in
    let written = rw c.in-Ok-Some.field-0-is at c.in-Ok-Some.ensures.ok in
    let grown = c.in_ok-push-in-Ok-Some.ensures.items in
    record {
      read = subst (λ (items : List OpView). IsReadTo c.args.listing.now c.split_line.result.1.now (c.loop-rest.number + 1) items) (sym grown)
          (one_line_read c.args.listing.now c.loop-rest.rest.now c.split_line.result.1.now c.split_line.result.0.now c.loop-rest.number c.loop-rest.ops.items (c.in-Ok-Some.op ∷ []) kept.read first c.in-Ok-Some.ensures.fault written);
      within = let before = kept.within in omega (arith, before, shorter);
    }

pub loop-rest-preserved : goal.loop-rest-preserved
loop-rest-preserved c =
    let kept = c.loop-rest.invariant in
    let first = c.split_line.ensures.lines in
    let shorter = c.split_line.ensures.shorter in
    let written = rw c.in-Ok-None.field-0-is at c.in-Ok-None.ensures.ok in
    record {
      read = subst (λ (items : List OpView). IsReadTo c.args.listing.now c.split_line.result.1.now (c.loop-rest.number + 1) items) (append-nil c.loop-rest.ops.items)
          (one_line_read c.args.listing.now c.loop-rest.rest.now c.split_line.result.1.now c.split_line.result.0.now c.loop-rest.number c.loop-rest.ops.items [] kept.read first c.in-Ok-None.ensures.fault written);
      within = let before = kept.within in omega (arith, before, shorter);
    }

pub loop-rest-preserved-in-Some : goal.loop-rest-preserved-in-Some
loop-rest-preserved-in-Some c =
    let kept = c.loop-rest.invariant in
    let taken = rw c.in-Some.is at c.read_plain.ensures in
    let pushed = c.in_ok-push.ensures.items in
    record {
      read = subst (λ (items : List OpView). IsReadTo c.args.listing.now c.in-Some.after.now (c.loop-rest.number + 1) items) (sym pushed)
          (one_line_read c.args.listing.now c.loop-rest.rest.now c.in-Some.after.now taken.line c.loop-rest.number c.loop-rest.ops.items (c.in-Some.op ∷ []) kept.read taken.first taken.faultless taken.written);
      within = let before = kept.within in let shorter = taken.shorter in omega (arith, before, shorter);
    }
