-- The goals of `are_same` that are answered by hand.
use Rattle.std.proofs.Common.{◌≡◌, Bool, true, false, eqb-true, refl, sym, ◌∙◌, rules}
use Rattle.std.specs.Prelude.{◌&&◌}
use denote.Enum.Bare.{same_true}
use Rattle.bg_types.specs.contracts.class.Bidi.{the_type as bidi_type}
use Rattle.bg_types.specs.contracts.class.Lb.{the_type as lb_type}
use Rattle.bg_types.specs.contracts.class.Ea.{the_type as ea_type}
use Rattle.unicode_tables.proofs.Marks.{same_word, same_bool}
use Rattle.unicode_tables.proofs.word.are_same.Goals as goal

both : (a b : Bool) → (a && b) ≡ true → (a ≡ true) × (b ≡ true)
both true b h = (refl, h)
both false b h = absurd cc

pub returns : goal.returns
returns c = λ on.
    let bidi = both _ _ (sym c.eq.ensures ∙ on) in
    let lb = both _ _ bidi.1 in
    let ea = both _ _ lb.1 in
    let marks = both _ _ ea.1 in
    let mirror = both _ _ marks.1 in
    let plain = both _ _ mirror.1 in
    let columns = both _ _ plain.1 in
    same_word
    (same_true bidi_type (search rules) _ _ bidi.0) (same_true lb_type (search rules) _ _ lb.0) (same_true ea_type (search rules) _ _ ea.0)
    (same_bool _ _ marks.0) (same_bool _ _ mirror.0) (same_bool _ _ plain.0) (eqb-true _ _ columns.0) (same_bool _ _ columns.1)
