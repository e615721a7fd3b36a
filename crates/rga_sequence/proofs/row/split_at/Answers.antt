-- The goals of `split_at` that are answered by hand.
use Rattle.std.proofs.Common.{◌≡◌, ◌+◌, ◌∙◌, [], true, cond, take, drop, get_or, sym, ap, arith}
use Rattle.std.specs.Prelude.{is_ok, insert, set}
use Rattle.std.proofs.lemmas.List.{map-set}
use Rattle.rga_sequence.specs.declared.block.Block.{Block}
use Rattle.rga_sequence.specs.BlockRows.{items_of, numbers_of}
use Rattle.rga_sequence.proofs.Passing.{items_at, items-insert}
use Rattle.rga_sequence.proofs.Numbers.{numbers-set, numbers-insert}
use Rattle.rga_sequence.proofs.row.split_at.Goals as goal

pub returns-clause-items : goal.returns-clause-items
returns-clause-items c =
    let bs = c.args.blocks.now in
    let q = c.args.q in
    let here = items_at bs.items q c.index_mut.result.now (omega (arith, c.requires.block, bs.ok)) c.index_mut.ensures.value in
    let low = c.split-upper.new.self in
    let high = c.split-upper.result in
    let all = set bs.items q low in
    let ok : is_ok c.insert.result ≡ true = ap is_ok c.unwrap.ensures in
    let first : items_of all ≡ set (items_of bs.items) q (take 256 (get_or (items_of bs.items) q [])) =
    map-set (λ (b : Block). b.elements.items) bs.items q low ∙ ap (set (items_of bs.items) q) (c.split-upper.ensures.items ∙ ap (take 256) (sym here)) in
    ap items_of (c.insert.ensures.items ∙ ap (λ b. cond b (insert all (q + 1) high) all) ok)
    ∙ items-insert all (q + 1) high ∙ (λ i. insert (first i) (q + 1) ((c.split-upper.ensures.upper ∙ ap (drop 256) (sym here)) i))

pub returns-clause-numbers : goal.returns-clause-numbers
returns-clause-numbers c =
    let bs = c.args.blocks.now in
    let q = c.args.q in
    let old = c.index_mut.result.now in
    let low = c.split-upper.new.self in
    let high = c.split-upper.result in
    let all = set bs.items q low in
    let ok : is_ok c.insert.result ≡ true = ap is_ok c.unwrap.ensures in
    let number = c.split-upper.ensures.number ∙ ap (λ (b : Block). b.number) c.index_mut.ensures.value in
    ap numbers_of (c.insert.ensures.items ∙ ap (λ b. cond b (insert all (q + 1) high) all) ok)
    ∙ numbers-insert all (q + 1) high ∙ (λ i. insert (numbers-set bs.items q old low (omega (arith, c.requires.block, bs.ok)) number i) (q + 1) (c.split-upper.ensures.upper_number i))
