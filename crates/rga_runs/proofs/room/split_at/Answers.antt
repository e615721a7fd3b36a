-- The goals of `split_at` that are answered by hand.
use Rattle.std.proofs.Common.{◌≡◌, ◌+◌, ◌%◌, ◌∙◌, [], true, cond, take, drop, get_or, sym, ap, arith}
use Rattle.std.specs.Prelude.{is_ok, insert, set}
use Rattle.rga_runs.specs.declared.block.Block.{Block}
use Rattle.rga_runs.specs.BlockRows.{items_of, numbers_of}
use Rattle.rga_runs.proofs.BlockLists.{items_at, items-set, numbers-set}
use Rattle.rga_runs.proofs.Chunks.{map-insert}
use Rattle.rga_runs.proofs.room.split_at.Goals as goal

pub returns-clause-items : goal.returns-clause-items
returns-clause-items c =
    let bs = c.args.blocks.now in
    let q = c.args.q in
    let old = c.index_mut.result.now in
    let here = items_at bs.items q old (omega (arith, c.requires.block, bs.ok)) c.index_mut.ensures.value in
    let low = c.split-upper.new.self in
    let high = c.split-upper.result in
    let all = set bs.items q low in
    let ok : is_ok c.insert.result ≡ true = ap is_ok c.unwrap.ensures in
    let first : items_of all ≡ set (items_of bs.items) q (take c.args.cut (get_or (items_of bs.items) q [])) =
    items-set bs.items q old low (take c.args.cut) (omega (arith, c.requires.block, bs.ok)) c.index_mut.ensures.value c.split-upper.ensures.items in
    let place : (q + 1) % 9223372036854775808 ≡ q + 1 = omega (arith, c.requires.block, bs.ok, bs.small) in
    ap items_of (c.insert.ensures.items ∙ (λ i. cond (ok i) (insert all (place i) high) all))
    ∙ map-insert (λ (b : Block). b.stretches.items) all (q + 1) high ∙ (λ i. insert (first i) (q + 1) ((c.split-upper.ensures.upper ∙ ap (drop c.args.cut) (sym here)) i))

pub returns-clause-numbers : goal.returns-clause-numbers
returns-clause-numbers c =
    let bs = c.args.blocks.now in
    let q = c.args.q in
    let old = c.index_mut.result.now in
    let low = c.split-upper.new.self in
    let high = c.split-upper.result in
    let all = set bs.items q low in
    let ok : is_ok c.insert.result ≡ true = ap is_ok c.unwrap.ensures in
    let place : (q + 1) % 9223372036854775808 ≡ q + 1 = omega (arith, c.requires.block, bs.ok, bs.small) in
    ap numbers_of (c.insert.ensures.items ∙ (λ i. cond (ok i) (insert all (place i) high) all))
    ∙ map-insert (λ (b : Block). b.number) all (q + 1) high ∙ (λ i. insert (numbers-set bs.items q old low (omega (arith, c.requires.block, bs.ok)) c.index_mut.ensures.value c.split-upper.ensures.number i) (q + 1) (c.split-upper.ensures.upper_number i))
