-- The goals of `lone` that are answered by hand.
use Rattle.std.proofs.Common.{◌≡◌, ◌++◌, ◌∙◌, ◌∷◌, [], true, cond, ap, arith}
use Rattle.std.specs.Prelude.{is_ok}
use Rattle.std.proofs.lemmas.List.Sums.{sum_by-cons}
use Rattle.rga_runs.specs.declared.stretch.Stretch.{Stretch}
use Rattle.rga_runs.specs.Stretches.{count_in, visible_in, visible_of}
use Rattle.rga_runs.specs.Blocks.{none_below}
use Rattle.rga_runs.proofs.Low.{low_lone}
use Rattle.rga_runs.proofs.block.Block.lone.Goals as goal

pub returns-clause-items : goal.returns-clause-items
returns-clause-items c =
    let none = c.args.stretches.items in
    let new = c.lone-new.result in
    let ok : is_ok c.push.result ≡ true = ap is_ok c.unwrap.ensures in
    let items : c.push.new.self.items ≡ new ∷ [] = c.push.ensures.items ∙ ap (λ b. cond b (none ++ new ∷ []) none) ok ∙ ap (λ l. l ++ new ∷ []) c.requires.empty in
    let e = c.lone-new.ensures in
    (new, record { start_is = e.start; count = e.count; first = e.first; parent_is = e.parent; hidden_is = e.hidden }, items)

pub invariant_of-result-clause-counted : goal.invariant_of-result-clause-counted
invariant_of-result-clause-counted c =
    let none = c.args.stretches.items in
    let new = c.lone-new.result in
    let ok : is_ok c.push.result ≡ true = ap is_ok c.unwrap.ensures in
    let items : c.push.new.self.items ≡ new ∷ [] = c.push.ensures.items ∙ ap (λ b. cond b (none ++ new ∷ []) none) ok ∙ ap (λ l. l ++ new ∷ []) c.requires.empty in
    omega (arith, ap count_in items, sum_by-cons (λ (s : Stretch). s.count) new [], c.lone-new.ensures.count)

pub invariant_of-result-clause-visible_are : goal.invariant_of-result-clause-visible_are
invariant_of-result-clause-visible_are c =
    let none = c.args.stretches.items in
    let new = c.lone-new.result in
    let ok : is_ok c.push.result ≡ true = ap is_ok c.unwrap.ensures in
    let items : c.push.new.self.items ≡ new ∷ [] = c.push.ensures.items ∙ ap (λ b. cond b (none ++ new ∷ []) none) ok ∙ ap (λ l. l ++ new ∷ []) c.requires.empty in
    omega (arith, ap visible_in items, sum_by-cons visible_of new [], c.visible-visible.ensures)

pub invariant_of-result-clause-low : goal.invariant_of-result-clause-low
invariant_of-result-clause-low c =
    let none = c.args.stretches.items in
    let new = c.lone-new.result in
    let ok : is_ok c.push.result ≡ true = ap is_ok c.unwrap.ensures in
    let items : c.push.new.self.items ≡ new ∷ [] = c.push.ensures.items ∙ ap (λ b. cond b (none ++ new ∷ []) none) ok ∙ ap (λ l. l ++ new ∷ []) c.requires.empty in
    ap (none_below c.args.id) items ∙ low_lone c.args.id new c.lone-new.ensures.first
