-- The goals of `take_in` that are answered by hand.
use Rattle.std.proofs.Common.{◌≡◌, ◌<◌, ◌+◌, ◌-◌, [], length, length-append, take, get_or, sym, ap, subst, ◌∙◌, arith}
use Rattle.std.specs.Prelude.{All}
use Rattle.std.specs.Str.{chars}
use Rattle.std.specs.Str.Iter.{chars_rest}
use Rattle.std.proofs.lemmas.List.{append-nil, take-append-drop, length-take-le, get_or_default}
use Rattle.bg_types.specs.Identifier.{Identifier}
use Rattle.bg_types.specs.declared.op.Place.TheVariants.{After}
use Rattle.rga_tree.specs.Row.{start_of}
use Rattle.rga_runs.specs.declared.stretch.Stretch.{Stretch}
use Rattle.rga_runs.specs.Typed.{later, bits_from}
use Rattle.rga_runs.specs.Stretches.{elements_in, are_stored, IsOutside}
use Rattle.rga_runs.specs.Blocks.{row_of, at_spot}
use Rattle.rga_runs.specs.BlockRows.{items_of}
use Rattle.rga_runs.proofs.BlockLists.{length-items}
use Rattle.rga_runs.proofs.Chunks.{get_or_row, at_less, one_there}
use Rattle.rga_runs.proofs.Rows.{stored_is, stored_more, stored_set}
use Rattle.rga_runs.proofs.TakenIn.{taken_in}
use Rattle.rga_runs.proofs.Typed.{later-more}
use Rattle.rga_runs.proofs.Taken.{none_taken}
use Rattle.rga_runs.proofs.change.take_in.Goals as goal

pub grow-requires-clause-new : goal.grow-requires-clause-new
grow-requires-clause-new c = λ d k few.
    let r = c.args.row.now in
    let s = get_or (get_or (items_of r.blocks.items) c.in-Some.b []) c.in-Some.j d in
    let some = s.some in
    let last = c.args.last in
    let is : later last (k + 1) ≡ later s.first (s.count + k) = ap (λ q. later q (k + 1)) (c.in-Some.ensures.last d) ∙ later-more s.first (s.count - 1) (k + 1) (s.count + k) (omega (arith, some)) in
    subst (λ q. All (IsOutside q) (row_of (items_of r.blocks.items))) is (c.requires.new k (omega (arith, few, c.store-more.ensures.within)))

pub grow-requires-clause-counter : goal.grow-requires-clause-counter
grow-requires-clause-counter c = λ d.
    let s = get_or (get_or (items_of c.args.row.now.blocks.items) c.in-Some.b []) c.in-Some.j d in
    let some = s.some in
    let last = ap (λ (q : Identifier). q.counter) (c.in-Some.ensures.last d) in
    omega (arith, some, last, c.requires.counters, c.store-more.ensures.within)

pub grow-requires-clause-place : goal.grow-requires-clause-place
grow-requires-clause-place c = λ d. omega (arith, c.in-Some.ensures.end d, c.len.ensures, c.requires.places, c.store-more.ensures.within)

pub grow-requires-clause-few : goal.grow-requires-clause-few
grow-requires-clause-few c = λ d. let few = c.in-Some.ensures.few d in omega (arith, few, c.store-more.ensures.most)

pub returns-in-Some-clause-elements : goal.returns-in-Some-clause-elements
returns-in-Some-clause-elements c =
    let r = c.args.row.now in
    let xs = items_of r.blocks.items in
    let ss = row_of xs in
    let b = c.in-Some.b in
    let j = c.in-Some.j in
    let there : b < length xs = omega (arith, c.in-Some.ensures.block, length-items r.blocks.items, r.blocks.ok) in
    let within = c.in-Some.ensures.within in
    let less = at_less xs b j there within in
    let p = at_spot xs b j in
    let d = one_there ss p less in
    let s = get_or ss p d in
    let item : s ≡ get_or ss p s = get_or_default ss p d s less in
    let same : s ≡ get_or (get_or xs b []) j d = get_or_row xs b j d there within in
    let e = c.grow.ensures.row d in
    let m = c.store-more.result in
    let chars0 = c.args.characters.now.items in
    let rest = chars (chars_rest c.args.left.now) in
    let more = take m rest in
    let many : length more ≡ m = length-take-le m rest c.store-more.ensures.within in
    let end : length chars0 ≡ s.start + s.count = omega (arith, c.in-Some.ensures.end d, ap (λ (z : Stretch). z.start) same, ap (λ (z : Stretch). z.count) same, c.len.ensures, c.args.characters.now.ok) in
    let long : length c.store-more.new.characters.items ≡ length chars0 + m = ap length c.store-more.ensures.items ∙ length-append chars0 more ∙ ap (λ k. length chars0 + k) many in
    (λ i. elements_in (c.store-more.ensures.items i) (e.2 i))
    ∙ taken_in chars0 more ss p s e.0 c.args.last m c.requires.stored c.requires.apart less item e.1 (subst (λ (z : Stretch). bits_from z.count z.hidden ≡ 0) (sym same) (c.in-Some.ensures.bits d)) end many
    (c.in-Some.ensures.last d ∙ ap (λ (z : Stretch). later z.first (z.count - 1)) (sym same))

pub returns-in-Some-clause-stored : goal.returns-in-Some-clause-stored
returns-in-Some-clause-stored c =
    let r = c.args.row.now in
    let xs = items_of r.blocks.items in
    let ss = row_of xs in
    let b = c.in-Some.b in
    let j = c.in-Some.j in
    let there : b < length xs = omega (arith, c.in-Some.ensures.block, length-items r.blocks.items, r.blocks.ok) in
    let within = c.in-Some.ensures.within in
    let less = at_less xs b j there within in
    let p = at_spot xs b j in
    let d = one_there ss p less in
    let s = get_or ss p d in
    let item : s ≡ get_or ss p s = get_or_default ss p d s less in
    let same : s ≡ get_or (get_or xs b []) j d = get_or_row xs b j d there within in
    let e = c.grow.ensures.row d in
    let m = c.store-more.result in
    let chars0 = c.args.characters.now.items in
    let rest = chars (chars_rest c.args.left.now) in
    let more = take m rest in
    let many : length more ≡ m = length-take-le m rest c.store-more.ensures.within in
    let end : length chars0 ≡ s.start + s.count = omega (arith, c.in-Some.ensures.end d, ap (λ (z : Stretch). z.start) same, ap (λ (z : Stretch). z.count) same, c.len.ensures, c.args.characters.now.ok) in
    let long : length c.store-more.new.characters.items ≡ length chars0 + m = ap length c.store-more.ensures.items ∙ length-append chars0 more ∙ ap (λ k. length chars0 + k) many in
    let all = length c.store-more.new.characters.items in
    ap (are_stored all) e.2 ∙ stored_set all ss p e.0 (stored_more (length chars0) all ss (omega (arith, long)) c.requires.stored) (stored_is all e.0 (omega (arith, e.1.start, e.1.count, end, long)))

pub returns-in-None-clause-characters : goal.returns-in-None-clause-characters
returns-in-None-clause-characters c = sym (append-nil c.args.characters.now.items)

pub returns-in-None-clause-elements : goal.returns-in-None-clause-elements
returns-in-None-clause-elements c =
    let es = elements_in c.args.characters.now.items (row_of (items_of c.args.row.now.blocks.items)) in
    sym (take-append-drop (start_of (After c.args.last) es) es)

pub returns-in-None-clause-room : goal.returns-in-None-clause-room
returns-in-None-clause-room c = none_taken 0 c.args.row.now
