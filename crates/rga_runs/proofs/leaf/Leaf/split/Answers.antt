-- The goal of `split` that is answered by hand.
use Rattle.std.proofs.Common.{◌≡◌, ◌-◌, ◌++◌, ◌∙◌, List, true, cond, length, take, drop, ap}
use Rattle.std.specs.Prelude.{is_ok}
use Rattle.std.proofs.lemmas.List.{take_rest}
use Rattle.rga_runs.specs.declared.key.Key.{Key}
use Rattle.rga_runs.proofs.leaf.Leaf.split.Goals as goal

pub returns-clause-upper : goal.returns-clause-upper
returns-clause-upper c =
    let upper = c.args.upper.items in
    let all = c.deref.result.now in
    let cut = c.args.cut in
    let moved = take (length all - cut) (drop cut all) in
    let ok : is_ok c.extend_from_slice.result ≡ true = ap is_ok c.unwrap.ensures in
    c.extend_from_slice.ensures.items ∙ ap (λ t. cond t (upper ++ moved) upper) ok ∙ ap (λ (l : List Key). l ++ moved) c.requires.empty ∙ take_rest all cut ∙ ap (drop cut) c.deref.ensures.value
