-- The stretch goes beyond its block, or others in the place of some of a row stand so among all.
use Rattle.std.proofs.Common.{◌≡◌, ◌+◌, ◌-◌, ◌++◌, [], length, take, drop, get_or, sym, ap, ap₂, ◌∙◌, arith}
use Rattle.std.proofs.lemmas.List.{take-set}
use Rattle.std.proofs.lemmas.Result.{on_ok_weaker, on_err_weaker}
use Rattle.std.proofs.Math.Seq.{map-set_same}
use Rattle.std.specs.List.{concat}
use Rattle.std.specs.Prelude.{slice_set}
use Rattle.text_buffer.specs.declared.block.Block.{Block}
use Rattle.text_buffer.specs.Buffers.{bytes_in}
use Rattle.text_buffer.specs.Pieces.{points_in}
use Rattle.text_buffer.specs.Blocks.{rows_of, joined, pieces_in}
use Rattle.text_buffer.proofs.Joins.{joined-replaced}
use Rattle.text_buffer.proofs.Places.{length-rows, length-points, parts-of, row-at, rows-set, bytes-row}
use Rattle.text_buffer.proofs.replace.replace_apart.Goals as goal

pub overflow_add-before : goal.overflow_add-before
overflow_add-before g c =
    let old = c.args.blocks.now.items in
    let b = c.args.before in
    let all = parts-of old b c.requires.block.stands in
    let row = ap (λ bs. length (get_or (rows_of bs) b.block [])) c.deref.ensures.value in
    omega (arith, all.paragraphs, row, c.count_in-count.ensures, length-points (pieces_in old), c.requires.paragraphs)

pub overflow_add-count : goal.overflow_add-count
overflow_add-count g c =
    let old = c.args.blocks.now.items in
    let b = c.args.before in
    let all = parts-of old b c.requires.block.stands in
    let row = ap (λ bs. length (get_or (rows_of bs) b.block [])) c.deref.ensures.value in
    omega (arith, all.paragraphs, row, c.count_in-count.ensures, length-points (pieces_in old), c.requires.paragraphs, c.len.ensures)

pub replace-requires-clause-within : goal.replace-requires-clause-within
replace-requires-clause-within g c =
    let old = c.args.blocks.now.items in
    let b = c.args.before in
    let own = row-at old b.block c.index_mut.result.now c.requires.block.stands.within c.index_mut.ensures.value in
    let row = ap (λ bs. length (get_or (rows_of bs) b.block [])) c.deref.ensures.value in
    omega (arith, ap length own, row, c.count_in-count.ensures)

pub replace-requires-clause-few : goal.replace-requires-clause-few
replace-requires-clause-few g c =
    let old = c.args.blocks.now.items in
    let b = c.args.before in
    let within = c.requires.block.stands.within in
    let own = row-at old b.block c.index_mut.result.now within c.index_mut.ensures.value in
    omega (arith, ap (λ t. bytes_in (concat (points_in t))) own, bytes-row old b.block within, c.requires.few)

pub returns-clause-ok : goal.returns-clause-ok
returns-clause-ok g c =
    let old = c.args.blocks.now.items in
    let b = c.args.before in
    let s = c.requires.block.stands in
    let rows = rows_of old in
    let put = c.args.pieces.items in
    let x = c.replace.new.self in
    let i = c.args.from - b.paragraphs in
    let j = c.args.to - b.paragraphs in
    let own = row-at old b.block c.index_mut.result.now s.within c.index_mut.ensures.value in
    let row = ap (λ bs. length (get_or (rows_of bs) b.block [])) c.deref.ensures.value in
    let n = length (joined (take b.block rows)) in
    let size : b.paragraphs ≡ n = s.paragraphs ∙ length-points (joined (take b.block rows)) in
    let low : n + i ≡ c.args.from = omega (arith, size, c.requires.block.reached) in
    let high : n + j ≡ c.args.to = omega (arith, size, c.requires.block.reached, c.requires.order) in
    on_ok_weaker c.replace.result
    (λ e. ap joined (rows-set old b.block x ∙ ap (slice_set rows b.block) (e ∙ ap (λ r. take i r ++ (put ++ drop j r)) (sym own)))
    ∙ joined-replaced rows b.block i j put (omega (arith, length-rows old, s.within)) (omega (arith, c.requires.block.here, c.requires.block.reached)) (omega (arith, row, c.count_in-count.ensures))
    ∙ ap₂ (λ p q. take p (pieces_in old) ++ (put ++ drop q (pieces_in old))) low high)
    c.replace.ensures.ok

pub returns-clause-err : goal.returns-clause-err
returns-clause-err g c =
    let pieces = λ (x : Block _). x.pieces.items in
    on_err_weaker c.replace.result
    (λ e. ap joined (map-set_same pieces c.args.blocks.now.items c.args.before.block c.replace.new.self c.index_mut.result.now (e ∙ ap pieces c.index_mut.ensures.value)))
    c.replace.ensures.err

pub returns-clause-front : goal.returns-clause-front
returns-clause-front g c =
    let old = c.args.blocks.now.items in
    let q = c.args.before.block in
    ap (take q) (rows-set old q c.replace.new.self) ∙ take-set (rows_of old) q _
