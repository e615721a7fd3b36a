-- The goals of `erase_range` that are answered by hand.
use Rattle.std.proofs.Common.{◌≡◌, ◌≤◌, ◌<◌, ◌+◌, ◌-◌, ◌++◌, [], length, take, drop, ap, ◌∙◌, arith}
use Rattle.std.specs.Str.{chars}
use Rattle.std.proofs.lemmas.Str.{chars-nil}
use Rattle.std.proofs.lemmas.List.{append-nil}
use Rattle.bg_types.specs.OperationSet.{size}
use Rattle.rga_tree.specs.TextOf.{text, visible}
use Rattle.desk_replica.specs.Desk.{Desk}
use Rattle.desk_replica.specs.declared.answer.TypeFault.TheVariants.{Full}
use Rattle.desk_replica.specs.Replacement.{deletions, replacement, IsRangeRefused}
use Rattle.desk_replica.specs.Merging.{with_operations}
use Rattle.desk_replica.proofs.Ranges.{erased}
use Rattle.desk_replica.proofs.Replacing.{on_ok, if_err, if_err_both, range_refused, range_full}
use Rattle.desk_replica.proofs.replica.Replica.erase_range.Goals as goal

pub returns-clause-made : goal.returns-clause-made
returns-clause-made g c =
    let d : Desk = c.args.self.now in
    let n = c.args.to - c.args.from in
    let none : replacement d.set d.site c.args.from n (chars []) ≡ deletions d.set c.args.from n = ap (replacement d.set d.site c.args.from n) chars-nil ∙ append-nil (deletions d.set c.args.from n) in
    on_ok c.replace.result _ _ (λ e. e ∙ ap (λ l. c.args.made.now.items ++ l) none) c.replace.ensures.made

pub returns-clause-ok : goal.returns-clause-ok
returns-clause-ok g c =
    let d : Desk = c.args.self.now in
    let n = c.args.to - c.args.from in
    let none : replacement d.set d.site c.args.from n (chars []) ≡ deletions d.set c.args.from n = ap (replacement d.set d.site c.args.from n) chars-nil ∙ append-nil (deletions d.set c.args.from n) in
    on_ok c.replace.result _ _ (λ e. e ∙ ap (with_operations d.set) none) c.replace.ensures.ok

pub returns-clause-erased : goal.returns-clause-erased
returns-clause-erased g c =
    let d : Desk = c.args.self.now in
    on_ok c.replace.result _ _ (λ e. e ∙ ap (λ l. take c.args.from (text d.set) ++ (l ++ drop c.args.to (text d.set))) chars-nil) c.replace.ensures.replaced

pub returns-clause-visible : goal.returns-clause-visible
returns-clause-visible g c =
    let d : Desk = c.args.self.now in
    let n = c.args.to - c.args.from in
    let within : c.args.from + n ≤ length (visible d.set) = omega (arith, c.requires.order, c.requires.within) in
    let end : c.args.from + n ≡ c.args.to = omega (arith, c.requires.order) in
    on_ok c.replace.result _ _
    (λ e. ap visible e ∙ (erased n d.set c.args.from c.op_count-count.ensures.well_formed within).visible_is ∙ ap (λ m. take c.args.from (visible d.set) ++ drop m (visible d.set)) end) (returns-clause-ok g c)

pub returns-clause-counter : goal.returns-clause-counter
returns-clause-counter g c = let nil = ap length chars-nil in on_ok c.replace.result _ _ (λ e. omega (arith, e, nil)) c.replace.ensures.counter

pub returns-clause-size : goal.returns-clause-size
returns-clause-size g c = let nil = ap length chars-nil in on_ok c.replace.result _ _ (λ e. omega (arith, e, nil)) c.replace.ensures.size

pub returns-clause-accepted : goal.returns-clause-accepted
returns-clause-accepted g c =
    let d : Desk = c.args.self.now in
    let n = c.args.to - c.args.from in
    let nil = ap length chars-nil in
    on_ok c.replace.result _ _ (λ no. let full : 1_000_000 < size d.set + n → ⊥ = λ more. no Full (omega (arith, nil), omega (arith, nil, more)) in omega (arith, full)) c.replace.ensures.accepted

pub returns-clause-fault : goal.returns-clause-fault
returns-clause-fault g c =
    let d : Desk = c.args.self.now in
    let n = c.args.to - c.args.from in
    if_err c.replace.result _ (IsRangeRefused d.set n) (range_refused d.set n (length (chars [])) (ap length chars-nil)) c.replace.ensures.fault

pub returns-clause-unpaid : goal.returns-clause-unpaid
returns-clause-unpaid g c =
    let d : Desk = c.args.self.now in
    let n = c.args.to - c.args.from in
    let nil = ap length chars-nil in
    λ room. if_err_both c.replace.result _ _ (λ fault. fault ≡ Full) (range_full d.set n (length (chars [])) d.spare nil) c.replace.ensures.fault (c.replace.ensures.unpaid (omega (arith, nil, room)))
