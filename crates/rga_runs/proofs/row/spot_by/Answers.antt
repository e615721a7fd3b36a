-- The goals of `spot_by` that are answered by hand.
use Rattle.std.proofs.Common.{◌≡◌, ℕ, ◌<◌, ◌∙◌, [], List, length, get_or, sym, ap, subst, arith}
use Rattle.std.specs.Prelude.{All}
use Rattle.std.proofs.lemmas.List.{get_or_default}
use Rattle.std.proofs.lemmas.Option.{slice_get_within, get_or_from_slice_get}
use Rattle.rga_runs.specs.declared.stretch.Stretch.{Stretch}
use Rattle.rga_runs.specs.declared.block.Block.{Block}
use Rattle.rga_runs.specs.declared.row.Row.{Row}
use Rattle.rga_runs.specs.Stretches.{IsOutside, BeginsElsewhere}
use Rattle.rga_runs.specs.Blocks.{row_of, at_spot}
use Rattle.rga_runs.specs.BlockRows.{items_of, numbers_of}
use Rattle.rga_runs.specs.Keyed.{look_in}
use Rattle.rga_runs.specs.KeyRows.{keys_in}
use Rattle.rga_runs.specs.Indexed.{IsIndexed}
use Rattle.rga_runs.proofs.Apart.{one_first}
use Rattle.rga_runs.proofs.BlockLists.{length-items, items_at}
use Rattle.rga_runs.proofs.Chunks.{get_or_row, at_less}
use Rattle.rga_runs.proofs.Homes.{outside_begun}
use Rattle.rga_runs.proofs.row.spot_by.Goals as goal

-- the place that is read for the number of a block
place_read : (r : Row) (b n p : ℕ) → IsIndexed r → b < length (items_of r.blocks.items) → n ≡ get_or (numbers_of r.blocks.items) b 0 → p ≡ get_or r.places.items n p → p ≡ b
place_read r b n p indexed there number read =
    read ∙ ap (λ m. get_or r.places.items m p) number
    ∙ get_or_from_slice_get r.places.items (get_or (numbers_of r.blocks.items) b 0) b p (indexed.places b (omega (arith, there, length-items r.blocks.items)))

-- the block that is read there
block_read : (r : Row) (b p : ℕ) (x : Block) → b < length (items_of r.blocks.items) → p ≡ b → x ≡ get_or r.blocks.items p x → get_or (items_of r.blocks.items) b [] ≡ x.stretches.items
block_read r b p x there place read =
    items_at r.blocks.items b x (omega (arith, there, length-items r.blocks.items)) (read ∙ ap (λ m. get_or r.blocks.items m x) place)

pub returns-in_err-b-clause-absent : goal.returns-in_err-b-clause-absent
returns-in_err-b-clause-absent c =
    let r = c.args.row.now in
    let bs = r.blocks.items in
    let key = c.args.key.now in
    rw c.from_residual.ensures (outside_begun (look_in (keys_in r.keys)) (items_of bs) (numbers_of bs) c.args.id key.first key.number c.requires.indexed.homes c.requires.found (λ b there number j d less first.
    let few = slice_get_within r.places.items (get_or (numbers_of bs) b 0) b (c.requires.indexed.places b (omega (arith, there, length-items bs))) in
    let past = c.in_err-b.ensures.lookup.3 in
    absurd (omega (arith, number, few, past, ap length c.deref.ensures.value))))

pub returns-in_err-block-clause-absent : goal.returns-in_err-block-clause-absent
returns-in_err-block-clause-absent c =
    let r = c.args.row.now in
    let bs = r.blocks.items in
    let key = c.args.key.now in
    let p = c.in_ok-b.field-0.now in
    let read : p ≡ get_or r.places.items key.number p = c.in_ok-b.ensures.lookup.1 ∙ ap (λ (l : List ℕ). get_or l key.number p) c.deref.ensures.value in
    rw c.from_residual-in_err-block.ensures (outside_begun (look_in (keys_in r.keys)) (items_of bs) (numbers_of bs) c.args.id key.first key.number c.requires.indexed.homes c.requires.found (λ b there number j d less first.
    let place = place_read r b key.number p c.requires.indexed there number read in
    let past = c.in_err-block.ensures.lookup.3 in
    absurd (omega (arith, place, there, length-items bs, past, ap length c.deref-2.ensures.value))))

pub returns-in_err-j-clause-absent : goal.returns-in_err-j-clause-absent
returns-in_err-j-clause-absent c =
    let r = c.args.row.now in
    let bs = r.blocks.items in
    let key = c.args.key.now in
    let p = c.in_ok-b.field-0.now in
    let x = c.in_ok-block.block.now in
    let read : p ≡ get_or r.places.items key.number p = c.in_ok-b.ensures.lookup.1 ∙ ap (λ (l : List ℕ). get_or l key.number p) c.deref.ensures.value in
    let block : x ≡ get_or bs p x = c.in_ok-block.ensures.lookup.1 ∙ ap (λ (l : List Block). get_or l p x) c.deref-2.ensures.value in
    rw c.from_residual-in_err-j.ensures (outside_begun (look_in (keys_in r.keys)) (items_of bs) (numbers_of bs) c.args.id key.first key.number c.requires.indexed.homes c.requires.found (λ b there number j d less first.
    let here = block_read r b p x there (place_read r b key.number p c.requires.indexed there number read) block in
    let others = subst (All (BeginsElsewhere key.first)) (c.deref-3.ensures.value ∙ sym here) c.in_err-j.ensures.absent in
    absurd (others j d less first)))

pub returns-in_err-stretch-clause-absent : goal.returns-in_err-stretch-clause-absent
returns-in_err-stretch-clause-absent c =
    absurd (omega (arith, c.in_ok-j.ensures.there, ap length c.deref-3.ensures.value, c.in_err-stretch.ensures.lookup.3, ap length c.deref-4.ensures.value))

-- the stretch that begins so is the only one, and lacks it
pub returns-in_err-k-clause-absent : goal.returns-in_err-k-clause-absent
returns-in_err-k-clause-absent c =
    let r = c.args.row.now in
    let bs = r.blocks.items in
    let xs = items_of bs in
    let key = c.args.key.now in
    let p = c.in_ok-b.field-0.now in
    let x = c.in_ok-block.block.now in
    let i = c.in_ok-j.j in
    let s = c.in_ok-stretch.stretch.now in
    let read : p ≡ get_or r.places.items key.number p = c.in_ok-b.ensures.lookup.1 ∙ ap (λ (l : List ℕ). get_or l key.number p) c.deref.ensures.value in
    let block : x ≡ get_or bs p x = c.in_ok-block.ensures.lookup.1 ∙ ap (λ (l : List Block). get_or l p x) c.deref-2.ensures.value in
    let stretch : s ≡ get_or x.stretches.items i s = c.in_ok-stretch.ensures.lookup.1 ∙ ap (λ (l : List Stretch). get_or l i s) c.deref-4.ensures.value in
    rw c.from_residual-in_err-k.ensures (outside_begun (look_in (keys_in r.keys)) xs (numbers_of bs) c.args.id key.first key.number c.requires.indexed.homes c.requires.found (λ b there number j d less first.
    let y = get_or xs b [] in
    let here = block_read r b p x there (place_read r b key.number p c.requires.indexed there number read) block in
    let within : i < length y = omega (arith, c.in_ok-j.ensures.there, ap length c.deref-3.ensures.value, ap length here) in
    let begun : (get_or y i d).first ≡ key.first = ap (λ (l : List Stretch). (get_or l i d).first) (here ∙ sym c.deref-3.ensures.value) ∙ c.in_ok-j.ensures.first d in
    let same : (get_or (row_of xs) (at_spot xs b j) d).first ≡ (get_or (row_of xs) (at_spot xs b i) d).first =
    ap (λ (z : Stretch). z.first) (get_or_row xs b j d there less) ∙ first ∙ sym begun ∙ ap (λ (z : Stretch). z.first) (sym (get_or_row xs b i d there within)) in
    let spot = one_first (row_of xs) (at_spot xs b j) (at_spot xs b i) d c.requires.apart (at_less xs b j there less) (at_less xs b i there within) same in
    let place : i ≡ j = omega (arith, spot) in
    let one : s ≡ get_or y j d = stretch ∙ ap (λ (l : List Stretch). get_or l i s) (sym here) ∙ get_or_default y i s d within ∙ ap (λ n. get_or y n d) place in
    subst (λ (z : Stretch). IsOutside c.args.id z) one c.in_err-k.ensures.absent))
