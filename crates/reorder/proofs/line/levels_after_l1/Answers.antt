-- The rows up to each separator in their turn, from the last.
use Rattle.std.proofs.Common.{◌≡◌, ◌++◌, ◌∙◌, ap, sym, subst, length, drop, arith}
use Rattle.std.proofs.lemmas.List.{take_at}
use Rattle.reorder.proofs.L1.{IsResetFrom, rows-start, rows-on}
use Rattle.reorder.proofs.line.levels_after_l1.Goals as goal

pub loop-end-init : goal.loop-end-init
loop-end-init c = record {
  len = (let all = c.in_ok-extend_from_slice.ensures.len in let none = c.clear.ensures.len in let same = c.requires in omega arith);
  within = omega arith;
  done = rows-start c.args.para_level c.args.classes.now c.args.levels.now c.requires _ _ (omega arith)
      (c.in_ok-extend_from_slice.ensures.items ∙ ap (λ l. l ++ c.args.levels.now) c.clear.ensures.items);
}

pub loop-end-preserved : goal.loop-end-preserved
loop-end-preserved c =
    let cs = c.args.classes.now in
    let h = c.loop-end.invariant in
    let r = c.reset_before-start.ensures in
    let s = c.separator_end-end.ensures in
    let new = c.reset_before-start.new.after in
    let long : length c.reset_before-start.new.after ≡ c.loop-end.after.len = omega (arith, c.reset_before-start.auto.after, c.deref_mut.ensures.len) in
    record {
      len = h.len;
      within = omega (arith, s.within, r.within, h.within);
      done =
          subst (IsResetFrom c.args.para_level cs c.args.levels.now c.separator_end-end.result) (sym (take_at new (drop (length new) c.loop-end.after.items) c.loop-end.after.len long))
          (rows-on c.args.para_level cs c.args.levels.now c.requires c.deref_mut.result.now new c.separator_end-end.result c.reset_before-start.result c.loop-end.end h.within
          (subst (IsResetFrom c.args.para_level cs c.args.levels.now c.loop-end.end) (sym c.deref_mut.ensures.value) h.done)
          r.within r.reset r.kept r.levels s.within s.passed s.separator);
    }
