-- The two parts follow each other.
use Rattle.std.proofs.Common.{◌≡◌, ℕ, ◌+◌, ◌<◌, List, [], length, take, drop, get_or, sym, ap, ap₂, ◌∙◌, arith}
use Rattle.std.proofs.lemmas.List.{take-append-drop}
use Rattle.std.proofs.Math.Seq.{map-set_same}
use Rattle.std.specs.List.{concat, insert}
use Rattle.std.specs.Prelude.{slice_set}
use Rattle.text_buffer.specs.declared.block.Block.{Block}
use Rattle.text_buffer.specs.Buffers.{bytes_in}
use Rattle.text_buffer.specs.Pieces.{points_in}
use Rattle.text_buffer.specs.Blocks.{rows_of, joined}
use Rattle.text_buffer.proofs.Joins.{joined-parted, parted-before, parted-low}
use Rattle.text_buffer.proofs.Places.{length-rows, bytes-row, row-at, rows-set, rows-insert, if_ok}
use Rattle.text_buffer.proofs.rows.part_at.Goals as goal

pub part-requires-clause-within : goal.part-requires-clause-within
part-requires-clause-within g c =
    let old = c.args.blocks.now.items in
    let q = c.args.q in
    let x = c.index_mut.result.now in
    let own = row-at old q x (omega (arith, c.requires.block, c.args.blocks.now.ok)) (c.index_mut.ensures.value ∙ ap (λ bs. get_or bs q x) c.in_ok-reserve.ensures.items) in
    omega (arith, ap length own, c.requires.within)

pub part-requires-clause-few : goal.part-requires-clause-few
part-requires-clause-few g c =
    let old = c.args.blocks.now.items in
    let q = c.args.q in
    let x = c.index_mut.result.now in
    let within : q < length old = omega (arith, c.requires.block, c.args.blocks.now.ok) in
    let own = row-at old q x within (c.index_mut.ensures.value ∙ ap (λ bs. get_or bs q x) c.in_ok-reserve.ensures.items) in
    omega (arith, ap (λ t. bytes_in (concat (points_in t))) own, bytes-row old q within, c.requires.few)

same-rows : {K : Type 0} (mid old : List (Block K)) (q : ℕ) (x new : Block K) → mid ≡ old → x ≡ get_or mid q x → new.pieces.items ≡ x.pieces.items → rows_of (slice_set mid q new) ≡ rows_of old
same-rows {K} mid old q x new mid_is is same =
    let pieces = λ (b : Block K). b.pieces.items in
    map-set_same pieces mid q new x (same ∙ ap pieces is) ∙ ap rows_of mid_is

pub returns-in_err-upper-clause-kept : goal.returns-in_err-upper-clause-kept
returns-in_err-upper-clause-kept g c =
    ap joined (same-rows _ c.args.blocks.now.items c.args.q c.index_mut.result.now c.part.new.self c.in_ok-reserve.ensures.items c.index_mut.ensures.value c.in_err-upper.ensures.err)

pub returns-in_err-upper-clause-front : goal.returns-in_err-upper-clause-front
returns-in_err-upper-clause-front g c =
    ap (take c.args.q) (same-rows _ c.args.blocks.now.items c.args.q c.index_mut.result.now c.part.new.self c.in_ok-reserve.ensures.items c.index_mut.ensures.value c.in_err-upper.ensures.err)

-- the rows with the two parts in the place of one
parted-rows : {K : Type 0} (mid old now : List (Block K)) (q number : ℕ) (x low high : Block K) → q < length old → mid ≡ old → x ≡ get_or mid q x → low.pieces.items ≡ take number x.pieces.items
    → high.pieces.items ≡ drop number x.pieces.items → now ≡ insert (slice_set mid q low) (q + 1) high
    → rows_of now ≡ insert (slice_set (rows_of old) q (take number (get_or (rows_of old) q []))) (q + 1) (drop number (get_or (rows_of old) q []))
parted-rows mid old now q number x low high within mid_is is low_is high_is put =
    let own = row-at old q x within (is ∙ ap (λ bs. get_or bs q x) mid_is) in
    ap rows_of put ∙ rows-insert (slice_set mid q low) (q + 1) high
    ∙ ap₂ (λ r h. insert r (q + 1) h) (rows-set mid q low ∙ ap₂ (λ bs r. slice_set (rows_of bs) q r) mid_is (low_is ∙ ap (take number) (sym own))) (high_is ∙ ap (drop number) (sym own))

pub returns-clause-kept : goal.returns-clause-kept
returns-clause-kept g c =
    let old = c.args.blocks.now.items in
    let q = c.args.q in
    let row = get_or (rows_of old) q [] in
    let within : q < length old = omega (arith, c.requires.block, c.args.blocks.now.ok) in
    let put = if_ok c.insert.result c.insert.new.self.items _ _ (c.insert.ensures.succeeds (omega (arith, c.in_ok-reserve.ensures.ok))) c.insert.ensures.items in
    let all = parted-rows _ old _ q c.args.number c.index_mut.result.now c.part.new.self c.in_ok-upper.upper within c.in_ok-reserve.ensures.items c.index_mut.ensures.value c.in_ok-upper.ensures.low c.in_ok-upper.ensures.high put in
    ap joined all ∙ joined-parted (rows_of old) q (take c.args.number row) (drop c.args.number row) (omega (arith, length-rows old, within)) (take-append-drop c.args.number row)

pub returns-clause-front : goal.returns-clause-front
returns-clause-front g c =
    let old = c.args.blocks.now.items in
    let q = c.args.q in
    let row = get_or (rows_of old) q [] in
    let within : q < length old = omega (arith, c.requires.block, c.args.blocks.now.ok) in
    let put = if_ok c.insert.result c.insert.new.self.items _ _ (c.insert.ensures.succeeds (omega (arith, c.in_ok-reserve.ensures.ok))) c.insert.ensures.items in
    let all = parted-rows _ old _ q c.args.number c.index_mut.result.now c.part.new.self c.in_ok-upper.upper within c.in_ok-reserve.ensures.items c.index_mut.ensures.value c.in_ok-upper.ensures.low c.in_ok-upper.ensures.high put in
    ap (take q) all ∙ parted-before (rows_of old) q (take c.args.number row) (drop c.args.number row) (omega (arith, length-rows old, within))

pub returns-clause-low : goal.returns-clause-low
returns-clause-low g c =
    let old = c.args.blocks.now.items in
    let q = c.args.q in
    let row = get_or (rows_of old) q [] in
    let within : q < length old = omega (arith, c.requires.block, c.args.blocks.now.ok) in
    let put = if_ok c.insert.result c.insert.new.self.items _ _ (c.insert.ensures.succeeds (omega (arith, c.in_ok-reserve.ensures.ok))) c.insert.ensures.items in
    let all = parted-rows _ old _ q c.args.number c.index_mut.result.now c.part.new.self c.in_ok-upper.upper within c.in_ok-reserve.ensures.items c.index_mut.ensures.value c.in_ok-upper.ensures.low c.in_ok-upper.ensures.high put in
    ap (λ r. get_or r q []) all ∙ parted-low (rows_of old) q (take c.args.number row) (drop c.args.number row) (omega (arith, length-rows old, within))
