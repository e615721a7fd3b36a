-- After its one code point nothing is left.
use Rattle.std.proofs.Common.{◌≡◌, true, ◌∷◌, refl, sym, ap, ◌∙◌}
use Rattle.std.proofs.lemmas.Bool.{false≢true}
use Rattle.std.proofs.lemmas.Str.{chars-nil, chars_past_char}
use Rattle.bg_types.specs.declared.class.Bidi.{Bidi}
use Rattle.bg_types.specs.declared.class.Bidi.TheVariants.{B}
use Rattle.unicode_tables.specs.Classes.{is_separator}
use Rattle.paragraphs.proofs.Interface.{nil-from-test}
use Rattle.paragraphs.specs.Text.{code_points}
use Rattle.cell_grid.proofs.separator.is_separator_alone.Goals as goal

separator-is : (class : Bidi) → is_separator class ≡ true → class ≡ B
unfolding is_separator
separator-is B h = refl
separator-is class h = absurd (false≢true h)

pub returns-then-is_empty : goal.returns-then-is_empty
returns-then-is_empty c = λ yes. record {
  point = c.in-Some.c;
  alone =
      chars_past_char c.args.text.now _ c.in-Some.c c.utf8.text (sym c.chars-chars.ensures.rest ∙ c.in-Some.ensures.steps.0)
      ∙ ap (λ r. c.in-Some.c ∷ code_points r) (nil-from-test _ (rw c.as_str.ensures at c.if-is_empty.ensures)) ∙ ap (λ ps. c.in-Some.c ∷ ps) chars-nil;
  class = sym c.bidi.ensures ∙ separator-is c.bidi.result (sym c.is_separator.ensures ∙ yes);
}
