-- Each likely separator keeps the text split up to what stands behind it.
use Rattle.std.proofs.Common.{◌≡◌, ◌+◌, ◌-◌, ◌∷◌, [], ◌++◌, length, refl, subst, ap, ◌∙◌, arith}
use Rattle.paragraphs.specs.Paragraphs.{StandsIn}
use Rattle.paragraphs.proofs.Pieces.{joined}
use Rattle.paragraphs.proofs.Splitting.{IsSplitTo, first_boundary, next_place, after_fits, first-le-end, end_boundary, IsSplitTo-start, IsSplitTo-before, IsSplitTo-end, IsSplitTo-on, IsSplitTo-cut, shorter, paragraphs-end, joined-paragraphs, paragraphs-stand}
use Rattle.std.proofs.lemmas.List.Elements.{All-same}
use Rattle.paragraphs.proofs.cuts.split.Goals as goal

pub loop-before-init : goal.loop-before-init
loop-before-init c =
    rw c.new-paragraphs.ensures.items (IsSplitTo-start c.args.tables.now c.args.text.now c.utf8.text)

pub overflow_add-place : goal.overflow_add-place
overflow_add-place c =
    let s = IsSplitTo-before _ _ _ _ _ _ _ c.utf8.text c.loop-before.invariant _ _ _ c.in-Some.ensures in
    let n = next_place _ _ _ _ _ _ _ c.utf8.text s c.in-Some.c _ refl in omega arith

pub overflow_add-place-in-Some : goal.overflow_add-place-in-Some
overflow_add-place-in-Some c =
    let s = IsSplitTo-before _ _ _ _ _ _ _ c.utf8.text c.loop-before.invariant _ _ _ c.in-Some.ensures in
    let n = next_place _ _ _ _ _ _ _ c.utf8.text s c.in-Some.c _ refl in omega arith

pub loop-before-smaller : goal.loop-before-smaller
loop-before-smaller c = shorter _ _ _ _ _ c.in-Some.ensures

pub loop-before-smaller-then-ends_paragraph : goal.loop-before-smaller-then-ends_paragraph
loop-before-smaller-then-ends_paragraph c = shorter _ _ _ _ _ c.in-Some.ensures

pub overflow_sub-end : goal.overflow_sub-end
overflow_sub-end c =
    let s = IsSplitTo-before _ _ _ _ _ _ _ c.utf8.text c.loop-before.invariant _ _ _ c.in-Some.ensures in
    after_fits _ _ _ _ _ _ _ c.utf8.text s c.in-Some.c _ refl

pub range-requires-clause-start_le_end : goal.range-requires-clause-start_le_end
range-requires-clause-start_le_end c =
    let s = IsSplitTo-before _ _ _ _ _ _ _ c.utf8.text c.loop-before.invariant _ _ _ c.in-Some.ensures in
    first-le-end _ _ _ _ _ _ _ c.utf8.text s c.in-Some.c _ refl

pub range-requires-clause-start_boundary : goal.range-requires-clause-start_boundary
range-requires-clause-start_boundary c = λ _. first_boundary _ _ _ _ _ _ _ c.utf8.text c.loop-before.invariant

pub range-requires-clause-end_boundary : goal.range-requires-clause-end_boundary
range-requires-clause-end_boundary c =
    let s = IsSplitTo-before _ _ _ _ _ _ _ c.utf8.text c.loop-before.invariant _ _ _ c.in-Some.ensures in
    end_boundary _ _ _ _ _ _ _ c.utf8.text s c.in-Some.c _ refl

pub loop-before-preserved-then-ends_paragraph : goal.loop-before-preserved-then-ends_paragraph
loop-before-preserved-then-ends_paragraph c =
    let s = IsSplitTo-before _ _ _ _ _ _ _ c.utf8.text c.loop-before.invariant _ _ _ c.in-Some.ensures in
    let end = length c.args.text.now - length c.in-Some.after.now in
    let next : c.loop-before.place + c.in-Some.before + 1 ≡ c.loop-before.place + (c.in-Some.before + 1) = omega arith in
    subst (λ n. IsSplitTo c.args.tables.now c.args.text.now c.in-Some.after.now c.push.new.self.items end n n) next
    (IsSplitTo-cut _ _ _ _ _ _ _ c.utf8.text s c.in-Some.c _ refl c.range.result.now _ c.if-ends_paragraph.ensures c.range.ensures.value
    (c.in_ok-push.ensures.items ∙ ap (λ p. c.loop-before.paragraphs.items ++ p ∷ []) c.new.ensures))

pub loop-before-preserved : goal.loop-before-preserved
loop-before-preserved c =
    let s = IsSplitTo-before _ _ _ _ _ _ _ c.utf8.text c.loop-before.invariant _ _ _ c.in-Some.ensures in
    let next : c.loop-before.place + c.in-Some.before + 1 ≡ c.loop-before.place + (c.in-Some.before + 1) = omega arith in
    subst (λ n. IsSplitTo c.args.tables.now c.args.text.now c.in-Some.after.now c.loop-before.paragraphs.items c.loop-before.first_byte c.loop-before.first_place n) next
    (IsSplitTo-on _ _ _ _ _ _ _ c.utf8.text s c.in-Some.c _ refl c.if-ends_paragraph.ensures)

pub range_from-requires : goal.range_from-requires
range_from-requires c = λ _. first_boundary _ _ _ _ _ _ _ c.utf8.text c.loop-before.invariant

pub returns-clause-ok : goal.returns-clause-ok
returns-clause-ok c =
    paragraphs-end _ _ _ _ _ _ _ c.utf8.text (IsSplitTo-end _ _ _ _ _ _ _ c.utf8.text c.loop-before.invariant c.in_default.ensures) c.range_from.result.now _ refl c.range_from.ensures.value
    (c.in_ok-push-2.ensures.items ∙ ap (λ p. c.loop-before.paragraphs.items ++ p ∷ []) c.new-2.ensures)

pub returns-clause-joined : goal.returns-clause-joined
returns-clause-joined c = ap joined (returns-clause-ok c) ∙ joined-paragraphs c.args.tables.now c.args.text.now c.utf8.text

pub returns-clause-slices : goal.returns-clause-slices
returns-clause-slices c =
    All-same (StandsIn c.args.text.now) _ _ (returns-clause-ok c) (paragraphs-stand c.args.tables.now c.args.text.now c.utf8.text)
