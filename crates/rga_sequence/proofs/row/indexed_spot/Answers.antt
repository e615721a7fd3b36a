-- The goals of `indexed_spot` that are answered by hand.
use Rattle.std.proofs.Common.{◌≡◌, ℕ, ◌<◌, ◌∙◌, [], Some, sym, ap, get_or, length, arith}
use Rattle.std.specs.Prelude.{slice_get, is_some}
use Rattle.bg_types.specs.Identifier.{Identifier}
use Rattle.rga_tree.specs.Row.{ids_of, is_distinct}
use Rattle.rga_tree.proofs.Interface.{until, until_some, until-first}
use Rattle.rga_sequence.specs.declared.block.Block.{Block}
use Rattle.rga_sequence.specs.declared.row.Row.{Row}
use Rattle.rga_sequence.specs.Blocks.{offset}
use Rattle.rga_sequence.specs.BlockRows.{numbers_of, home_of}
use Rattle.rga_sequence.specs.Grouped.{home_in}
use Rattle.rga_sequence.specs.Indexed.{blocks_in, IsIndexed}
use Rattle.rga_sequence.proofs.Homes.{id_eq}
use Rattle.rga_sequence.proofs.Members.{IsFirst, is_some-home, distinct_in}
use Rattle.rga_sequence.proofs.Passing.{items_there}
use Rattle.rga_sequence.proofs.Spots.{found_first, found_within}
use Rattle.rga_sequence.proofs.Numbers.{length-items, as_many_numbers}
use Rattle.rga_sequence.proofs.row.indexed_spot.Goals as goal

inverts : (r : Row) → IsIndexed id_eq r → (p : ℕ) → p < length (blocks_in r) → slice_get r.places.items (get_or (numbers_of r.blocks.items) p 0) ≡ Some p
inverts r indexed p there = indexed.places p (omega (arith, length-items r.blocks.items, there))

found : (r : Row) (q : Identifier) (number : ℕ) → IsIndexed id_eq r → Some number ≡ home_in id_eq r.index q → home_of (blocks_in r) (numbers_of r.blocks.items) q ≡ Some number
found r q number indexed is = sym (indexed.homes q) ∙ sym is

-- the block at the number's place is the first that has the identifier
first_at : (r : Row) (q : Identifier) (number p : ℕ) → IsIndexed id_eq r → Some number ≡ home_in id_eq r.index q → p ≡ get_or r.places.items number p
    → IsFirst (blocks_in r) (numbers_of r.blocks.items) q number p
first_at r q number p indexed is at = found_first (blocks_in r) (numbers_of r.blocks.items) r.places.items q number p (inverts r indexed) (found r q number indexed is) at

elements_there : (r : Row) (p : ℕ) (b : Block) → p < length (blocks_in r) → b ≡ get_or r.blocks.items p b → b.elements.items ≡ get_or (blocks_in r) p []
elements_there r p b there at = ap (λ (d : Block). d.elements.items) at ∙ sym (items_there r.blocks.items p b (omega (arith, length-items r.blocks.items, there)))

pub index-p-requires : goal.index-p-requires
index-p-requires c =
    let row = c.args.row.now in
    omega (
      arith,
      found_within (blocks_in row) (numbers_of row.blocks.items) row.places.items c.args.id c.in-Some.number (inverts row c.requires.indexed)
          (found row c.args.id c.in-Some.number c.requires.indexed c.in-Some.ensures),
      row.places.ok,
    )

pub index-block-requires : goal.index-block-requires
index-block-requires c =
    let row = c.args.row.now in
    let first = first_at row c.args.id c.in-Some.number c.index-p.result.now c.requires.indexed c.in-Some.ensures c.index-p.ensures in
    omega (arith, first.there, length-items row.blocks.items, row.blocks.ok)

pub returns-in-None-clause-absent : goal.returns-in-None-clause-absent
returns-in-None-clause-absent c =
    let bs = c.args.row.now.blocks.items in
    sym (is_some-home (blocks_in c.args.row.now) (numbers_of bs) c.args.id (as_many_numbers bs)) ∙ ap is_some (sym (c.requires.indexed.homes c.args.id) ∙ sym c.in-None.ensures)

pub returns-in-Some : goal.returns-in-Some
returns-in-Some c =
    let row = c.args.row.now in
    let xs = blocks_in row in
    let p = c.index-p.result.now in
    let first = first_at row c.args.id c.in-Some.number p c.requires.indexed c.in-Some.ensures c.index-p.ensures in
    let block_is = c.deref.ensures.value ∙ elements_there row p c.index-block.result.now first.there c.index-block.ensures in
    let at_is : c.before-in-Some.result ≡ until c.args.id (get_or xs p []) = c.before-in-Some.ensures ∙ ap (until c.args.id) block_is in
    record {
      absent = tt;
      block = omega (arith, first.there, length-items row.blocks.items, row.blocks.ok);
      within = omega (arith, at_is, until_some c.args.id (get_or xs p []) first.inside);
      place = ap (offset xs p) at_is ∙ until-first xs p c.args.id first.there first.inside first.before;
    }

pub before-requires : goal.before-requires
before-requires c =
    let row = c.args.row.now in
    let p = c.index-p.result.now in
    let first = first_at row c.args.id c.in-Some.number p c.requires.indexed c.in-Some.ensures c.index-p.ensures in
    let block_is = c.deref.ensures.value ∙ elements_there row p c.index-block.result.now first.there c.index-block.ensures in
    ap (λ es. is_distinct (ids_of es)) block_is ∙ distinct_in (blocks_in row) p first.there c.requires.distinct
