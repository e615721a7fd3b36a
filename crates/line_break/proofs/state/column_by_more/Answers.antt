-- The class tells the column, for CP and OP with the width, for SA with the Bidi class.
use Rattle.std.proofs.Common.{◌≡◌, true, refl, sym, subst, ◌∙◌}
use Rattle.bg_types.specs.declared.class.Lb.{Lb}
use Rattle.bg_types.specs.declared.class.Lb.TheVariants.{Cp, Op, Sa}
use Rattle.line_break.specs.Classes.{asks_more, is_east_asian}
use Rattle.line_break.specs.Items.{point_of_word}
use Rattle.line_break.specs.States.{IsColumn}
use Rattle.line_break.proofs.Columns.{column-cp, column-op, column-mark, column-letter, IsColumn-of}
use Rattle.line_break.proofs.state.column_by_more.Goals as goal

pub returns-in-Cp : goal.returns-in-Cp
returns-in-Cp c =
    let w = c.args.word.now in
    subst (IsColumn (point_of_word w)) (sym c.column_by_width.ensures)
    (IsColumn-of w _ _ (sym c.in-Cp.is) (column-cp w.bidi (is_east_asian w.ea)))

pub returns-in-Op : goal.returns-in-Op
returns-in-Op c =
    let w = c.args.word.now in
    subst (IsColumn (point_of_word w)) (sym c.column_by_width-in-Op.ensures)
    (IsColumn-of w _ _ (sym c.in-Op.is) (column-op w.bidi (is_east_asian w.ea)))

-- of the three it is SA then
left : (x : Lb) → asks_more x ≡ true → (x ≡ Cp → ⊥) → (x ≡ Op → ⊥) → x ≡ Sa
unfolding asks_more
left Cp h cp op = absurd (cp refl)
left Op h cp op = absurd (op refl)
left Sa h cp op = refl
left _ h cp op = absurd (cc h)

pub returns-then-is_nonspacing : goal.returns-then-is_nonspacing
returns-then-is_nonspacing c =
    let w = c.args.word.now in
    IsColumn-of w _ _ (sym (left w.lb c.requires c.in_default.not-Cp c.in_default.not-Op)) (column-mark w.bidi _ (sym c.is_nonspacing.ensures ∙ c.if-is_nonspacing.true))

pub returns-else-is_nonspacing : goal.returns-else-is_nonspacing
returns-else-is_nonspacing c =
    let w = c.args.word.now in
    IsColumn-of w _ _ (sym (left w.lb c.requires c.in_default.not-Cp c.in_default.not-Op)) (column-letter w.bidi _ (sym c.is_nonspacing.ensures ∙ c.if-is_nonspacing.false))
