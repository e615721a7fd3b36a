-- The goals of `put_at_spot` that are answered by hand.
use Rattle.std.proofs.Common.{◌≡◌, ◌+◌, ◌-◌, ◌<◌, ◌++◌, ◌∷◌, ◌∙◌, [], suc, true, length, get_or, refl, sym, ap, subst, arith}
use Rattle.std.specs.Prelude.{All, insert, set}
use Rattle.bg_types.specs.declared.op.Place.TheVariants.{After}
use Rattle.rga_tree.specs.declared.element.Element.{Element}
use Rattle.rga_tree.specs.Spot.{joined}
use Rattle.rga_runs.specs.declared.stretch.Stretch.{Stretch}
use Rattle.rga_runs.specs.Changed.{IsGrown, IsLone}
use Rattle.rga_runs.specs.Typed.{later, typed}
use Rattle.rga_runs.specs.Stretches.{elements_of, parts_in, elements_in, are_stored, IsOutside}
use Rattle.rga_runs.specs.Blocks.{row_of, at_spot}
use Rattle.rga_runs.specs.BlockRows.{items_of}
use Rattle.rga_runs.proofs.BlockLists.{length-items}
use Rattle.rga_runs.proofs.Chunks.{at_within, at_less}
use Rattle.rga_runs.proofs.Places.{insert_part, insert_last}
use Rattle.rga_runs.proofs.Rows.{length-parts, part_there, parts_set, parts_insert, parts_kept, stored_is, stored_more, stored_set, stored_insert, grown_part, lone_part}
use Rattle.rga_runs.proofs.Spots.{read_stretch, read_row}
use Rattle.rga_runs.proofs.Taken.{more_taken}
use Rattle.rga_runs.proofs.change.put_at_spot.Goals as goal

pub grow-requires-clause-new : goal.grow-requires-clause-new
grow-requires-clause-new c = λ d k few.
    let r = c.args.row.now in
    let xs = items_of r.blocks.items in
    let ss = row_of xs in
    let b = c.args.b in
    let there : b < length xs = omega (arith, c.requires.block, length-items r.blocks.items, r.blocks.ok) in
    let j = c.args.j - 1 in
    let x = c.index-then-j-gt0.result.now in
    let within : j < length (get_or xs b []) = omega (arith, c.requires.within, c.if-j-gt0.true) in
    let item = λ (d : Stretch). read_stretch r.blocks.items b j c.index.result.now x d (omega (arith, c.requires.block, r.blocks.ok)) within c.index.ensures c.index-then-j-gt0.ensures in
    let behind : x.count ≡ x.count + k = omega (arith, few) in
    subst (λ z. All (IsOutside z) ss) (c.if-goes_on.ensures.id ∙ ap (later x.first) behind ∙ ap (λ (s : Stretch). later s.first (s.count + k)) (item d)) c.requires.new

pub returns-then-goes_on-clause-elements : goal.returns-then-goes_on-clause-elements
returns-then-goes_on-clause-elements c = λ chars ch end.
    let r = c.args.row.now in
    let xs = items_of r.blocks.items in
    let ss = row_of xs in
    let b = c.args.b in
    let there : b < length xs = omega (arith, c.requires.block, length-items r.blocks.items, r.blocks.ok) in
    let j = c.args.j - 1 in
    let x = c.index-then-j-gt0.result.now in
    let within : j < length (get_or xs b []) = omega (arith, c.requires.within, c.if-j-gt0.true) in
    let q = at_spot xs b j in
    let item = λ (d : Stretch). read_row r.blocks.items b j c.index.result.now x d (omega (arith, c.requires.block, r.blocks.ok)) within c.index.ensures c.index-then-j-gt0.ensures in
    let n : Element = record { id = c.args.id; parent = c.args.parent; ch = ch; hidden = c.args.hidden } in
    let all = chars ++ ch ∷ [] in
    let e = c.grow.ensures.row x in
    let new = e.0 in
    let less = at_less xs b j there within in
    let stored : are_stored (length chars) ss ≡ true = ap (λ m. are_stored m ss) end ∙ c.requires.stored in
    let is : IsGrown x new 1 = subst (λ (s : Stretch). IsGrown s new 1) (sym (item x)) e.1 in
    let on = c.if-goes_on.ensures in
    let one : typed (later x.first x.count) (After (later x.first (x.count - 1))) 0 (ch ∷ []) ≡ n ∷ [] = λ i. record { id = sym on.id i; parent = sym on.parent i; ch = ch; hidden = sym on.hidden i } ∷ [] in
    let part = grown_part chars (ch ∷ []) x new 1 is on.bits (end ∙ on.start) refl ∙ ap (λ es. elements_of chars x ++ es) one in
    let old_part = part_there chars ss q x less ∙ ap (elements_of chars) (sym (item x)) in
    let ys = parts_in chars ss in
    let next : at_spot xs b c.args.j ≡ suc q = omega (arith, c.if-j-gt0.true) in
    ap (elements_in all) e.2 ∙ ap joined (parts_set all ss q new ∙ (λ i. set (parts_kept chars (ch ∷ []) ss stored i) q ((part ∙ ap (λ es. es ++ n ∷ []) (sym old_part)) i)))
    ∙ insert_last ys (at_spot xs b c.args.j) q n next (omega (arith, length-parts chars ss, less))

pub returns-then-goes_on-clause-stored : goal.returns-then-goes_on-clause-stored
returns-then-goes_on-clause-stored c =
    let r = c.args.row.now in
    let xs = items_of r.blocks.items in
    let ss = row_of xs in
    let b = c.args.b in
    let there : b < length xs = omega (arith, c.requires.block, length-items r.blocks.items, r.blocks.ok) in
    let j = c.args.j - 1 in
    let x = c.index-then-j-gt0.result.now in
    let within : j < length (get_or xs b []) = omega (arith, c.requires.within, c.if-j-gt0.true) in
    let q = at_spot xs b j in
    let item = λ (d : Stretch). read_row r.blocks.items b j c.index.result.now x d (omega (arith, c.requires.block, r.blocks.ok)) within c.index.ensures c.index-then-j-gt0.ensures in
    let e = c.grow.ensures.row x in
    let start = c.if-goes_on.ensures.start in
    let same = item x in
    ap (are_stored (c.args.start + 1)) e.2
    ∙ stored_set (c.args.start + 1) ss q e.0 (stored_more c.args.start (c.args.start + 1) ss (omega arith) c.requires.stored)
    (stored_is (c.args.start + 1) e.0 (omega (arith, start, e.1.start, e.1.count, ap (λ (s : Stretch). s.start) same, ap (λ (s : Stretch). s.count) same)))

pub returns-then-goes_on-clause-room : goal.returns-then-goes_on-clause-room
returns-then-goes_on-clause-room c = more_taken 0 1 c.args.row.now _ (omega arith) c.grow.ensures.room

pub returns-else-j-gt0-clause-elements : goal.returns-else-j-gt0-clause-elements
returns-else-j-gt0-clause-elements c = λ chars ch end.
    let r = c.args.row.now in
    let xs = items_of r.blocks.items in
    let ss = row_of xs in
    let b = c.args.b in
    let there : b < length xs = omega (arith, c.requires.block, length-items r.blocks.items, r.blocks.ok) in
    let p = at_spot xs b c.args.j in
    let n : Element = record { id = c.args.id; parent = c.args.parent; ch = ch; hidden = c.args.hidden } in
    let all = chars ++ ch ∷ [] in
    let e = c.put_lone.ensures.row in
    let new = e.0 in
    let stored : are_stored (length chars) ss ≡ true = ap (λ m. are_stored m ss) end ∙ c.requires.stored in
    let part = lone_part chars new n (subst (λ m. IsLone new n.id n.parent m n.hidden) (sym end) e.1) in
    ap (elements_in all) e.2 ∙ ap joined (parts_insert all ss p new ∙ (λ i. insert (parts_kept chars (ch ∷ []) ss stored i) p (part i)))
    ∙ insert_part (parts_in chars ss) p n (omega (arith, length-parts chars ss, at_within xs b c.args.j there c.requires.within))

pub returns-else-j-gt0-clause-stored : goal.returns-else-j-gt0-clause-stored
returns-else-j-gt0-clause-stored c =
    let r = c.args.row.now in
    let xs = items_of r.blocks.items in
    let ss = row_of xs in
    let b = c.args.b in
    let there : b < length xs = omega (arith, c.requires.block, length-items r.blocks.items, r.blocks.ok) in
    let e = c.put_lone.ensures.row in
    ap (are_stored (c.args.start + 1)) e.2
    ∙ stored_insert (c.args.start + 1) ss (at_spot xs b c.args.j) e.0 (stored_more c.args.start (c.args.start + 1) ss (omega arith) c.requires.stored) (stored_is (c.args.start + 1) e.0 (omega (arith, e.1.start_is, e.1.count)))
