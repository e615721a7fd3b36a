-- The goals of `hide` that are answered by hand.
use Rattle.std.proofs.Common.{ap, ◌∙◌, arith}
use Rattle.std.specs.Prelude.{not}
use Rattle.std.specs.List.{prefix_len}
use Rattle.bg_types.specs.Identifier.{same_id}
use Rattle.rga_tree.proofs.Placing.{present_before}
use Rattle.rga_tree.proofs.Hiding.{hiding}
use Rattle.rga_tree.proofs.plain.PlainSequence.hide.Goals as goal

pub index_mut-requires : goal.index_mut-requires
index_mut-requires c =
    let more = present_before c.args.id c.args.self.now.row.items c.requires in
    let at = c.before-at.ensures in
    rw (at, c.deref.ensures.value) (omega (arith, more))

pub invariant_of-self : goal.invariant_of-self
invariant_of-self c =
    let row = c.args.self.now.row.items in
    let step = hiding row c.args.id c.before-at.result c.index_mut.result.now c.args.self.now.keeps_walk c.requires (c.before-at.ensures ∙ ap (prefix_len (λ e. not (same_id c.args.id e.id))) c.deref.ensures.value) c.index_mut.ensures.value in
    record { keeps_walk = step.0 }

pub returns-clause-content : goal.returns-clause-content
returns-clause-content c =
    let row = c.args.self.now.row.items in
    let step = hiding row c.args.id c.before-at.result c.index_mut.result.now c.args.self.now.keeps_walk c.requires (c.before-at.ensures ∙ ap (prefix_len (λ e. not (same_id c.args.id e.id))) c.deref.ensures.value) c.index_mut.ensures.value in
    step.1
