-- The pass goes from the first place to the last, over rows of places that simply take a direction.
use Rattle.std.proofs.Common.{◌<◌, ◌+◌, ◌∙◌, [], ap, sym, subst, length, get_or, set, take, add-one, arith, rules}
use Rattle.std.proofs.lemmas.List.{length-set, take_all, take_more_set, with_items_is}
use Rattle.bidi_explicit.specs.Levels.{place_of}
use Rattle.bg_types.specs.declared.class.Bidi.TheVariants.{L}
use Rattle.bidi_explicit.proofs.Matching.{length-controls}
use Rattle.bidi_explicit.proofs.Passing.{IsPassedTo, IsPassedTo-start, IsPassedTo-on, IsPassedTo-row, IsPassedTo-end}
use Rattle.bidi_explicit.proofs.places.places_into.Goals as goal

pub loop-i-init : goal.loop-i-init
loop-i-init c =
    let e = c.put_under-i.ensures in
    let cs = c.args.classes.now in
    record {
      long = omega (arith, ap length c.as_mut_slice-kept.ensures.value, c.resize.new.self.ok.0, c.in_ok-resize.ensures.len);
      within = e.within;
      passed =
          subst (IsPassedTo c.args.level cs c.put_under-i.result c.new-stack.result) (sym e.places)
          (IsPassedTo-row c.args.level cs 0 c.put_under-i.result c.new-stack.result [] c.top.result
          (rw c.new-stack.ensures (IsPassedTo-start c.args.level cs)) c.top.ensures e.from e.within e.simple);
    }

pub bounds-controls-i : goal.bounds-controls-i
bounds-controls-i c = let same = ap length c.requires.matched ∙ length-controls 0 c.args.classes.now in omega arith

pub offset_bounds-controls-i : goal.offset_bounds-controls-i
offset_bounds-controls-i c =
    let same = ap length c.requires.matched ∙ length-controls 0 c.args.classes.now in
    let less : c.loop-i.i < length c.args.controls.now = omega arith in
    search rules

pub loop-i-preserved : goal.loop-i-preserved
loop-i-preserved c =
    let h = c.loop-i.invariant in
    let cs = c.args.classes.now in
    let i = c.loop-i.i in
    let same = ap length c.requires.matched ∙ length-controls 0 c.args.classes.now in
    let inside : c.loop-i.i < length c.args.classes.now = omega arith in
    let e = c.put_under-i-in-loop-i.ensures in
    let put : IsPassedTo c.args.level c.args.classes.now (c.loop-i.i + 1) c.advance-taken.new.self (take (c.loop-i.i + 1) (set c.loop-i.kept c.loop-i.i c.place_of.result)) =
    rw (take_more_set c.loop-i.kept c.loop-i.i c.place_of.result (omega arith), add-one)
    (IsPassedTo-on c.args.level c.args.classes.now c.loop-i.i c.loop-i.stack (take c.loop-i.i c.loop-i.kept) h.passed inside
    L _ c.args.controls.now c.requires.matched c.advance-taken.new.self c.place_of.result c.advance-taken.ensures.after
    (c.place_of.ensures ∙ ap (λ d. place_of c.args.level d (get_or c.args.classes.now c.loop-i.i L)) c.advance-taken.ensures.direction)) in
    record {
      long = omega (arith, h.long, length-set c.loop-i.kept c.loop-i.i c.place_of.result);
      within = e.within;
      passed =
          subst (IsPassedTo c.args.level cs c.put_under-i-in-loop-i.result c.advance-taken.new.self) (sym e.places)
          (IsPassedTo-row c.args.level cs (i + 1) c.put_under-i-in-loop-i.result c.advance-taken.new.self _ c.top-in-loop-i.result
          put c.top-in-loop-i.ensures e.from e.within e.simple);
    }

pub returns : goal.returns
returns c =
    let h = c.loop-i.invariant in
    with_items_is c.resize.new.self c.loop-i.kept (omega (arith, h.long))
    ∙ sym (take_all c.loop-i.i c.loop-i.kept (omega (arith, h.long)))
    ∙ IsPassedTo-end c.args.level c.args.classes.now c.loop-i.i c.loop-i.stack (take c.loop-i.i c.loop-i.kept) (omega arith) h.passed
