-- The goals of `operations` that are answered by hand.
use Rattle.std.proofs.Common.{◌≡◌, ◌≤◌, ◌+◌, ◌-◌, ◌++◌, List, length, inl, inr, refl, sym, ap, subst, ◌∙◌, arith, rules}
use Rattle.std.specs.Str.{chars}
use Rattle.bg_types.specs.declared.op.OpView.{OpView}
use Rattle.rga_tree.specs.TextOf.{visible, visible_ids}
use Rattle.desk_replica.specs.Typing.{parent_at}
use Rattle.desk_replica.specs.Replacement.{deletions, insertions, replacement}
use Rattle.desk_runs.specs.Changing.{place_in, first_id, IsUnfit}
use Rattle.desk_files.proofs.Interface.{err_handed}
use Rattle.desk_runs.proofs.operations.operations.Goals as goal

pub replace-requires-clause-room : goal.replace-requires-clause-room
replace-requires-clause-room c = omega (arith, c.code_points-count.ensures)

pub returns-clause-ok : goal.returns-clause-ok
returns-clause-ok c =
    let s = c.args.desk.now.set in
    let change = c.args.change.now in
    let typed = chars c.args.text.now in
    let at = c.match-change.place in
    let place : at ≡ place_in s change = search rules in
    let count : at + change.erased - at ≡ change.erased = omega arith in
    let within : at + (at + change.erased - at) ≤ length (visible s) = omega arith in
    c.in_ok-replace.ensures.ok
    ∙ ap (λ (ops : List OpView). ops ++ replacement s c.args.desk.now.site at (at + change.erased - at) typed) c.in_ok-ops.ensures.items
    ∙ c.stretches.ensures.replaced s c.args.desk.now.site at (at + change.erased - at) typed c.op_count.ensures.well_formed within
    ∙ (λ i. deletions s (place i) (count i) ++ insertions (record { counter = (first_id s change).counter; site = c.requires i }) (parent_at (visible_ids s) (place i)) typed)

pub returns-clause-fits : goal.returns-clause-fits
returns-clause-fits c =
    let s = c.args.desk.now.set in
    let place : c.match-change.place ≡ place_in s c.args.change.now = search rules in
    record {
      within = omega (arith, place);
      room = omega (arith, c.code_points-count.ensures);
      counters = c.in_ok-replace.ensures.counters;
    }

pub returns-in_err-replace-clause-fault : goal.returns-in_err-replace-clause-fault
returns-in_err-replace-clause-fault c =
    let s = c.args.desk.now.set in
    let change = c.args.change.now in
    let typed = chars c.args.text.now in
    let fault = c.in_err-replace.field-0.0 in
    let place : c.match-change.place ≡ place_in s change = search rules in
    let unfit : IsUnfit s change typed fault = elim c.in_err-replace.ensures.fault [
      | inl memory ↦ subst (IsUnfit s change typed) (sym memory) refl
      | inr spent ↦ subst (IsUnfit s change typed) (sym spent.0) (omega (arith, place), omega (arith, c.code_points-count.ensures), spent.1)
    ] in
    err_handed (IsUnfit s change typed) c.from_residual-in_err-replace.result fault c.from_residual-in_err-replace.ensures.1 unfit
