-- The properties tell the same.
use Rattle.std.proofs.Common.{◌≡◌, ◌+◌, ◌*◌, true, None, get_or, sym, ap, ◌∙◌, rules}
use Rattle.std.specs.Prelude.{is_some}
use Rattle.bg_types.specs.declared.class.Bidi.TheVariants.{L}
use Rattle.bg_types.specs.declared.class.Lb.TheVariants.{Xx}
use Rattle.bg_types.specs.declared.class.Ea.TheVariants.{N}
use denote.Enum.Bare.{same_true}
use Rattle.bg_types.specs.contracts.class.Bidi.{the_type as bidi_type}
use Rattle.bg_types.specs.contracts.class.Lb.{the_type as lb_type}
use Rattle.bg_types.specs.contracts.class.Ea.{the_type as ea_type}
use Rattle.unicode_tables.specs.declared.bracket.Bracket.TheVariants.{None as no_bracket}
use Rattle.unicode_tables.specs.Word.{is_bracket, word_with}
use Rattle.unicode_tables.proofs.Marks.{same_bool, bracket-even, mirror-even, word-beside}
use Rattle.unicode_tables.proofs.word.Properties.has_word.Goals as goal
use Rattle.unicode_tables.proofs.word.Properties.has_word.Goals.{Then-eq-3, then-eq, else-eq, then-eq-2, else-eq-2}

-- the three classes are the same
by_marks : (c : Then-eq-3) → is_bracket (get_or c.args.self.now.bracket.now (c.args.block * 256 + c.args.place) no_bracket) ≡ c.args.word.is_bracket
    → is_some (get_or c.args.self.now.mirror.now (c.args.block * 256 + c.args.place) None) ≡ c.args.word.has_mirror
    → word_with c.args.self.now (c.args.block * 256 + c.args.place) ≡ c.args.word
by_marks c bracket mirror = elim c.if-eq-2.branch [
  | then-eq-2 w ↦ elim c.if-eq.branch [
    | then-eq v ↦
        let lb : v.eq-then-eq.result ≡ true = sym v.value-is ∙ w.if-eq-2.true in
        let ea : w.eq-then-eq-2.result ≡ true = sym w.value-is ∙ c.if-eq-3.true in
        word-beside c.args.self.now c.args.word c.args.block c.args.place c.requires.word c.requires.place c.requires.by_properties
        (sym (c.in_block.ensures L) ∙ same_true bidi_type (search rules) _ _ (sym c.eq.ensures ∙ v.if-eq.true))
        (sym (v.in_block-then-eq.ensures Xx) ∙ same_true lb_type (search rules) _ _ (sym v.eq-then-eq.ensures ∙ lb))
        (sym (w.in_block-then-eq-2.ensures N) ∙ same_true ea_type (search rules) _ _ (sym w.eq-then-eq-2.ensures ∙ ea))
        bracket mirror
    | else-eq v ↦ absurd (let off = sym v.value-is ∙ w.if-eq-2.true in cc)
  ]
  | else-eq-2 w ↦ absurd (let off = sym w.value-is ∙ c.if-eq-3.true in cc)
]

pub returns-then-even_marks : goal.returns-then-even_marks
returns-then-even_marks c = λ on.
    let marks = c.requires.marks c.if-even_marks.true in
    by_marks (goal.at.returns-then-even_marks c).Then-eq-3
    (bracket-even c.args.self.now c.args.word c.args.block c.args.place c.requires.word c.requires.place marks)
    (mirror-even c.args.self.now c.args.word c.args.block c.args.place c.requires.word c.requires.place marks)

pub returns-then-is_bracket-word : goal.returns-then-is_bracket-word
returns-then-is_bracket-word c = λ on.
    by_marks (goal.at.returns-then-is_bracket-word c).Then-eq-3
    (ap is_bracket (sym (c.in_block-else-even_marks.ensures no_bracket)) ∙ sym c.is_bracket.ensures ∙ same_bool _ _ c.if-is_bracket-word.true)
    (ap is_some (sym (c.in_block-then-is_bracket-word.ensures None)) ∙ sym c.is_some.ensures ∙ same_bool _ _ on)
