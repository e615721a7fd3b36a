-- The goals of `place` that are answered by hand.
use Rattle.std.proofs.Common.{◌≡◌, true, cond, ap, ◌∙◌, arith}
use Rattle.std.specs.Prelude.{is_ok, insert}
use Rattle.rga_tree.specs.declared.element.Element.{Element}
use Rattle.rga_tree.specs.Row.{place_of}
use Rattle.rga_tree.proofs.Placing.{placing, start_within}
use Rattle.rga_tree.proofs.plain.PlainSequence.place.Goals as goal

pub place_for-at-requires : goal.place_for-at-requires
place_for-at-requires c = rw c.deref.ensures.value (start_within c.args.self.now.row.items c.args.parent c.requires.parent)

pub invariant_of-self : goal.invariant_of-self
invariant_of-self c =
    let row = c.args.self.now.row.items in
    let n : Element = record { id = c.args.id; parent = c.args.parent; ch = c.args.ch; hidden = c.args.hidden } in
    let at = c.place_for-at.result in
    let at_is = c.place_for-at.ensures.place ∙ ap (place_of c.args.parent c.args.id) c.deref.ensures.value in
    let ok : is_ok c.insert.result ≡ true = c.insert.ensures.succeeds (omega (arith, c.requires.room)) in
    let items : c.insert.new.self.items ≡ insert row at n = c.insert.ensures.items ∙ ap (λ b. cond b (insert row at n) row) ok in
    let step = placing row c.insert.new.self.items n at c.args.self.now.keeps_walk c.requires.parent (c.counter-known.ensures.identifier, c.requires.before, c.ranges.ch.0) c.requires.new (start_within row c.args.parent c.requires.parent) at_is items in
    record { keeps_walk = step.0 }

pub returns-clause-content : goal.returns-clause-content
returns-clause-content c =
    let row = c.args.self.now.row.items in
    let n : Element = record { id = c.args.id; parent = c.args.parent; ch = c.args.ch; hidden = c.args.hidden } in
    let at = c.place_for-at.result in
    let at_is = c.place_for-at.ensures.place ∙ ap (place_of c.args.parent c.args.id) c.deref.ensures.value in
    let ok : is_ok c.insert.result ≡ true = c.insert.ensures.succeeds (omega (arith, c.requires.room)) in
    let items : c.insert.new.self.items ≡ insert row at n = c.insert.ensures.items ∙ ap (λ b. cond b (insert row at n) row) ok in
    let step = placing row c.insert.new.self.items n at c.args.self.now.keeps_walk c.requires.parent (c.counter-known.ensures.identifier, c.requires.before, c.ranges.ch.0) c.requires.new (start_within row c.args.parent c.requires.parent) at_is items in
    step.1
