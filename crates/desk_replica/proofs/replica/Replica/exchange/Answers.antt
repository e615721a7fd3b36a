-- The goals of `exchange` that are answered by hand.
use Rattle.std.proofs.Common.{◌≡◌, ◌≤◌, ◌+◌, ◌-◌, ◌++◌, length, sym, ap, subst, ◌∙◌, append_assoc, arith}
use Rattle.std.specs.Prelude.{All}
use Rattle.std.specs.Str.{chars}
use Rattle.std.proofs.lemmas.List.Elements.{recursion_from_All}
use Rattle.bg_types.specs.OperationSet.{OperationSet, next, size}
use Rattle.bg_types.specs.WellFormed.{IsWellFormed}
use Rattle.rga_tree.specs.TextOf.{visible}
use Rattle.rga_tree.specs.Tree.{stands_in}
use Rattle.desk_replica.specs.Desk.{Desk}
use Rattle.desk_replica.specs.Placement.{IsCounted, IsPaid, IsSettled, whole}
use Rattle.desk_replica.specs.Replacement.{insertions, deletions, replacement}
use Rattle.desk_replica.specs.Merging.{with_operations}
use Rattle.desk_replica.proofs.Admitting.{IsContent}
use Rattle.desk_replica.proofs.FirstTurn.{held_within}
use Rattle.desk_replica.proofs.Replacing.{replacing, within_tree, above, follows, stands, made_is, settled_now, whole_now, counted_now, all_formed}
use Rattle.desk_replica.proofs.replica.Replica.exchange.Goals as goal

pub pay_for_typed-requires-clause-few : goal.pay_for_typed-requires-clause-few
pay_for_typed-requires-clause-few g c =
    let few = held_within (g.S.Sequence.content c.self.inside.seq) c.self.inside.held.held in
    omega (arith, few, c.self.invariant.counted.kept_is, c.self.invariant.counted.limited)

pub erase_stretch-requires-clause-within : goal.erase_stretch-requires-clause-within
erase_stretch-requires-clause-within g c =
    let t = g.S.Sequence.content c.self.inside.seq in
    let w = c.self.inside.held in
    let view = c.self.view_is ∙ c.parent_for-parent.ensures.unchanged in
    let content : IsContent t = record { well = g.met.S.Sequence.well_formed c.self.inside.seq; tree = g.met.S.Sequence.is_tree c.self.inside.seq; only = g.met.S.Sequence.only_placed c.self.inside.seq } in
    let now = replacing t w c.self.inside.site c.self.inside.spare c.self.inside.kept c.self.inside.greatest c.args.from c.args.erased c.parent_for-parent.result c.args.self.now
    content c.self.invariant.settled c.self.invariant.counted view c.requires.within c.parent_for-parent.ensures.parent in
    omega (arith, ap (λ (x : OperationSet). length (visible x)) c.pay_for_typed.ensures.content, within_tree t w c.self.inside.site c.self.inside.greatest c.args.from c.args.erased c.parent_for-parent.result now)

pub type_behind-requires-clause-new : goal.type_behind-requires-clause-new
type_behind-requires-clause-new g c =
    let t = g.S.Sequence.content c.self.inside.seq in
    let w = c.self.inside.held in
    let view = c.self.view_is ∙ c.parent_for-parent.ensures.unchanged in
    let content : IsContent t = record { well = g.met.S.Sequence.well_formed c.self.inside.seq; tree = g.met.S.Sequence.is_tree c.self.inside.seq; only = g.met.S.Sequence.only_placed c.self.inside.seq } in
    let now = replacing t w c.self.inside.site c.self.inside.spare c.self.inside.kept c.self.inside.greatest c.args.from c.args.erased c.parent_for-parent.result c.args.self.now
    content c.self.invariant.settled c.self.invariant.counted view c.requires.within c.parent_for-parent.ensures.parent in
    let erased_is = c.erase_stretch.ensures.content ∙ ap (λ (x : OperationSet). with_operations x (deletions x c.args.from c.args.erased)) c.pay_for_typed.ensures.content in
    omega (arith, ap next erased_is, above t w c.self.inside.site c.self.inside.greatest c.args.from c.args.erased c.parent_for-parent.result now)

pub type_behind-requires-clause-follows : goal.type_behind-requires-clause-follows
type_behind-requires-clause-follows g c =
    let t = g.S.Sequence.content c.self.inside.seq in
    let w = c.self.inside.held in
    let view = c.self.view_is ∙ c.parent_for-parent.ensures.unchanged in
    let content : IsContent t = record { well = g.met.S.Sequence.well_formed c.self.inside.seq; tree = g.met.S.Sequence.is_tree c.self.inside.seq; only = g.met.S.Sequence.only_placed c.self.inside.seq } in
    let now = replacing t w c.self.inside.site c.self.inside.spare c.self.inside.kept c.self.inside.greatest c.args.from c.args.erased c.parent_for-parent.result c.args.self.now
    content c.self.invariant.settled c.self.invariant.counted view c.requires.within c.parent_for-parent.ensures.parent in
    follows t w c.self.inside.site c.self.inside.greatest c.args.from c.args.erased c.parent_for-parent.result now

pub type_behind-requires-clause-stands : goal.type_behind-requires-clause-stands
type_behind-requires-clause-stands g c =
    let t = g.S.Sequence.content c.self.inside.seq in
    let w = c.self.inside.held in
    let view = c.self.view_is ∙ c.parent_for-parent.ensures.unchanged in
    let content : IsContent t = record { well = g.met.S.Sequence.well_formed c.self.inside.seq; tree = g.met.S.Sequence.is_tree c.self.inside.seq; only = g.met.S.Sequence.only_placed c.self.inside.seq } in
    let now = replacing t w c.self.inside.site c.self.inside.spare c.self.inside.kept c.self.inside.greatest c.args.from c.args.erased c.parent_for-parent.result c.args.self.now
    content c.self.invariant.settled c.self.invariant.counted view c.requires.within c.parent_for-parent.ensures.parent in
    let erased_is = c.erase_stretch.ensures.content ∙ ap (λ (x : OperationSet). with_operations x (deletions x c.args.from c.args.erased)) c.pay_for_typed.ensures.content in
    ap (λ (x : OperationSet). stands_in x c.parent_for-parent.result) erased_is ∙ stands t w c.self.inside.site c.self.inside.greatest c.args.from c.args.erased c.parent_for-parent.result now

pub invariant_of-self-2 : goal.invariant_of-self-2
invariant_of-self-2 g c =
    let t = g.S.Sequence.content c.self.inside.seq in
    let w = c.self.inside.held in
    let view = c.self.view_is ∙ c.parent_for-parent.ensures.unchanged in
    let content : IsContent t = record { well = g.met.S.Sequence.well_formed c.self.inside.seq; tree = g.met.S.Sequence.is_tree c.self.inside.seq; only = g.met.S.Sequence.only_placed c.self.inside.seq } in
    let now = replacing t w c.self.inside.site c.self.inside.spare c.self.inside.kept c.self.inside.greatest c.args.from c.args.erased c.parent_for-parent.result c.args.self.now
    content c.self.invariant.settled c.self.invariant.counted view c.requires.within c.parent_for-parent.ensures.parent in
    let erased_is = c.erase_stretch.ensures.content ∙ ap (λ (x : OperationSet). with_operations x (deletions x c.args.from c.args.erased)) c.pay_for_typed.ensures.content in
    let typed = chars c.args.characters.now in
    let ops = insertions (record { counter = c.self.inside.greatest + 1; site = c.self.inside.site }) c.parent_for-parent.result typed in
    let after = c.erase_stretch.new.seq in
    let there : IsContent (with_operations t (deletions t c.args.from c.args.erased)) =
    subst IsContent erased_is (record { well = g.met.S.Sequence.well_formed after; tree = g.met.S.Sequence.is_tree after; only = g.met.S.Sequence.only_placed after }) in
    let formed = recursion_from_All IsWellFormed ops c.type_behind.ensures.well_formed in
    let tree_is = c.type_behind.ensures.content ∙ ap (λ (x : OperationSet). with_operations x ops) erased_is in
    let same = ap (λ (x : OperationSet). whole x w) tree_is ∙ whole_now t w c.self.inside.site c.self.inside.greatest c.args.from c.args.erased c.parent_for-parent.result now typed there formed in
    let few : size (whole t w) + (c.args.erased + length typed) ≤ 1_000_000 = omega (arith, ap (λ (x : Desk). size x.set) view, c.requires.room, c.requires.typed) in
    let counted = counted_now t w c.self.inside.site c.self.inside.greatest c.args.from c.args.erased c.parent_for-parent.result now typed there formed c.self.inside.kept c.self.invariant.counted few in
    let left : g.S.Sequence.free c.pay_for_typed.new.seq - c.args.typed ≡ g.S.Sequence.free c.type_behind.new.seq = omega (arith, c.requires.typed, c.erase_stretch.ensures.room, c.type_behind.ensures.room) in
    record {
      settled = subst (λ (x : OperationSet). IsSettled x w) (sym tree_is) (settled_now t w c.self.inside.site c.self.inside.greatest c.args.from c.args.erased c.parent_for-parent.result now typed there formed);
      counted = subst (λ n. IsCounted (whole (g.S.Sequence.content c.type_behind.new.seq) w) (c.self.inside.kept + (c.args.erased + n)) (c.self.inside.greatest + n)) (sym c.requires.typed)
          (subst (λ (s : OperationSet). IsCounted s (c.self.inside.kept + (c.args.erased + length typed)) (c.self.inside.greatest + length typed)) (sym same) counted);
      sited = c.self.invariant.sited;
      paid = subst (λ n. IsPaid n w c.pay_for_typed.new.spare) left c.in_ok-pay_for_typed.ensures.rest;
    }

pub returns-clause-made : goal.returns-clause-made
returns-clause-made g c =
    let t = g.S.Sequence.content c.self.inside.seq in
    let w = c.self.inside.held in
    let view = c.self.view_is ∙ c.parent_for-parent.ensures.unchanged in
    let content : IsContent t = record { well = g.met.S.Sequence.well_formed c.self.inside.seq; tree = g.met.S.Sequence.is_tree c.self.inside.seq; only = g.met.S.Sequence.only_placed c.self.inside.seq } in
    let now = replacing t w c.self.inside.site c.self.inside.spare c.self.inside.kept c.self.inside.greatest c.args.from c.args.erased c.parent_for-parent.result c.args.self.now
    content c.self.invariant.settled c.self.invariant.counted view c.requires.within c.parent_for-parent.ensures.parent in
    let typed = chars c.args.characters.now in
    let ops = insertions (record { counter = c.self.inside.greatest + 1; site = c.self.inside.site }) c.parent_for-parent.result typed in
    let made = c.args.made.now.items in
    let gone = c.erase_stretch.ensures.made ∙ (λ i. c.reserve.ensures.items i ++ deletions (c.pay_for_typed.ensures.content i) c.args.from c.args.erased) in
    c.type_behind.ensures.made ∙ ap (λ l. l ++ ops) gone ∙ append_assoc made (deletions t c.args.from c.args.erased) ops
    ∙ ap (λ l. made ++ l) (made_is t w c.self.inside.site c.self.inside.greatest c.args.from c.args.erased c.parent_for-parent.result now typed)
    ∙ ap (λ (x : Desk). made ++ replacement x.set x.site c.args.from c.args.erased typed) view

pub returns-clause-well_formed : goal.returns-clause-well_formed
returns-clause-well_formed g c =
    let t = g.S.Sequence.content c.self.inside.seq in
    let w = c.self.inside.held in
    let view = c.self.view_is ∙ c.parent_for-parent.ensures.unchanged in
    let content : IsContent t = record { well = g.met.S.Sequence.well_formed c.self.inside.seq; tree = g.met.S.Sequence.is_tree c.self.inside.seq; only = g.met.S.Sequence.only_placed c.self.inside.seq } in
    let now = replacing t w c.self.inside.site c.self.inside.spare c.self.inside.kept c.self.inside.greatest c.args.from c.args.erased c.parent_for-parent.result c.args.self.now
    content c.self.invariant.settled c.self.invariant.counted view c.requires.within c.parent_for-parent.ensures.parent in
    let erased_is = c.erase_stretch.ensures.content ∙ ap (λ (x : OperationSet). with_operations x (deletions x c.args.from c.args.erased)) c.pay_for_typed.ensures.content in
    let typed = chars c.args.characters.now in
    let ops = insertions (record { counter = c.self.inside.greatest + 1; site = c.self.inside.site }) c.parent_for-parent.result typed in
    let after = c.erase_stretch.new.seq in
    let there : IsContent (with_operations t (deletions t c.args.from c.args.erased)) =
    subst IsContent erased_is (record { well = g.met.S.Sequence.well_formed after; tree = g.met.S.Sequence.is_tree after; only = g.met.S.Sequence.only_placed after }) in
    let formed = recursion_from_All IsWellFormed ops c.type_behind.ensures.well_formed in
    subst (λ (x : Desk). All IsWellFormed (replacement x.set x.site c.args.from c.args.erased typed)) view (all_formed t w c.self.inside.site c.self.inside.greatest c.args.from c.args.erased c.parent_for-parent.result now typed there formed)

pub returns-clause-set : goal.returns-clause-set
returns-clause-set g c =
    let t = g.S.Sequence.content c.self.inside.seq in
    let w = c.self.inside.held in
    let view = c.self.view_is ∙ c.parent_for-parent.ensures.unchanged in
    let content : IsContent t = record { well = g.met.S.Sequence.well_formed c.self.inside.seq; tree = g.met.S.Sequence.is_tree c.self.inside.seq; only = g.met.S.Sequence.only_placed c.self.inside.seq } in
    let now = replacing t w c.self.inside.site c.self.inside.spare c.self.inside.kept c.self.inside.greatest c.args.from c.args.erased c.parent_for-parent.result c.args.self.now
    content c.self.invariant.settled c.self.invariant.counted view c.requires.within c.parent_for-parent.ensures.parent in
    let erased_is = c.erase_stretch.ensures.content ∙ ap (λ (x : OperationSet). with_operations x (deletions x c.args.from c.args.erased)) c.pay_for_typed.ensures.content in
    let typed = chars c.args.characters.now in
    let ops = insertions (record { counter = c.self.inside.greatest + 1; site = c.self.inside.site }) c.parent_for-parent.result typed in
    let after = c.erase_stretch.new.seq in
    let there : IsContent (with_operations t (deletions t c.args.from c.args.erased)) =
    subst IsContent erased_is (record { well = g.met.S.Sequence.well_formed after; tree = g.met.S.Sequence.is_tree after; only = g.met.S.Sequence.only_placed after }) in
    let formed = recursion_from_All IsWellFormed ops c.type_behind.ensures.well_formed in
    ap (λ (x : OperationSet). whole x w) (c.type_behind.ensures.content ∙ ap (λ (x : OperationSet). with_operations x ops) erased_is)
    ∙ whole_now t w c.self.inside.site c.self.inside.greatest c.args.from c.args.erased c.parent_for-parent.result now typed there formed
    ∙ ap (λ (x : Desk). with_operations x.set (replacement x.set x.site c.args.from c.args.erased typed)) view
