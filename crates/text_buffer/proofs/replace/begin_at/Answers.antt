-- The block that was split off begins with the paragraph.
use Rattle.std.proofs.Common.{◌-◌, [], length, get_or, ap, sym, subst, ◌∙◌, arith}
use Rattle.std.proofs.lemmas.List.{length-take-le}
use Rattle.std.specs.List.{concat}
use Rattle.text_buffer.specs.Buffers.{bytes_in}
use Rattle.text_buffer.specs.Pieces.{points_in}
use Rattle.text_buffer.specs.Blocks.{rows_of, pieces_in}
use Rattle.text_buffer.specs.Places.{IsInFront}
use Rattle.text_buffer.proofs.Places.{length-points, stands-same}
use Rattle.text_buffer.proofs.replace.begin_at.Goals as goal

pub next_to-requires-clause-stands : goal.next_to-requires-clause-stands
next_to-requires-clause-stands g c =
    let new = c.part_at.new.blocks.items in
    subst (λ bs. IsInFront bs c.args.before) (sym c.deref.ensures.value)
    (stands-same c.args.blocks.now.items new c.args.before c.requires.stands c.in_ok-part_at.ensures.front (omega (arith, c.in_ok-part_at.ensures.more, c.requires.stands.within, c.args.blocks.now.ok, c.part_at.new.blocks.ok)))

pub next_to-requires-clause-more : goal.next_to-requires-clause-more
next_to-requires-clause-more g c =
    omega (arith, ap length c.deref.ensures.value, c.in_ok-part_at.ensures.more, c.requires.stands.within, c.args.blocks.now.ok, c.part_at.new.blocks.ok)

pub next_to-requires-clause-fits : goal.next_to-requires-clause-fits
next_to-requires-clause-fits g c =
    let same = ap pieces_in c.deref.ensures.value ∙ c.in_ok-part_at.ensures.kept in
    record {
      bytes = omega (arith, ap (λ ps. bytes_in (concat (points_in ps))) same, c.requires.few);
      paragraphs = omega (arith, ap length same, length-points (pieces_in c.deref.result.now), c.requires.paragraphs);
    }

pub returns-clause-stands : goal.returns-clause-stands
returns-clause-stands g c = subst (λ bs. IsInFront bs c.next_to.result) c.deref.ensures.value c.next_to.ensures.stands

pub returns-clause-begins : goal.returns-clause-begins
returns-clause-begins g c =
    let low = ap (λ bs. get_or (rows_of bs) c.args.before.block []) c.deref.ensures.value ∙ c.in_ok-part_at.ensures.low in
    let row = get_or (rows_of c.args.blocks.now.items) c.args.before.block [] in
    let size = ap length low ∙ length-take-le (c.args.number - c.args.before.paragraphs) row (omega (arith, c.requires.here)) in
    omega (arith, c.next_to.ensures.paragraphs, size, c.requires.reached)
