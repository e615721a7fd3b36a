-- Each step's answer is the definition's of the classes.
use Rattle.std.proofs.Common.{◌≡◌, ◌∙◌, sym, ap, subst, length}
use Rattle.bidi_explicit.specs.Levels.{explicit_places}
use Rattle.bidi_explicit.specs.Controls.{controls_from}
use Rattle.bidi_explicit.specs.Links.{AreMatched, AreKept}
use Rattle.bidi_explicit.proofs.Matching.{length-controls}
use Rattle.bidi_explicit.proofs.Facts.{length-explicit_places, are-matched, are-kept}
use Rattle.bidi_explicit.proofs.Whole.{embedding-is}
use Rattle.bidi_explicit.proofs.embedded.Embedded.embed.Goals as goal

pub sequences_into-requires-clause-long : goal.sequences_into-requires-clause-long
sequences_into-requires-clause-long c =
    let cs = c.args.classes.now in
    let controls : c.deref-2.result.now ≡ controls_from 0 cs = c.deref-2.ensures.value ∙ c.in_ok-controls_into.ensures in
    let places : c.deref-3.result.now ≡ explicit_places c.args.level cs = c.deref-3.ensures.value ∙ c.in_ok-places_into.ensures in
    ap length controls ∙ length-controls 0 cs ∙ sym (length-explicit_places c.args.level cs) ∙ sym (ap length places)

pub sequences_into-requires-clause-matched : goal.sequences_into-requires-clause-matched
sequences_into-requires-clause-matched c =
    let cs = c.args.classes.now in
    let controls : c.deref-2.result.now ≡ controls_from 0 cs = c.deref-2.ensures.value ∙ c.in_ok-controls_into.ensures in
    subst AreMatched (sym controls) (are-matched cs)

pub sequences_into-requires-clause-kept : goal.sequences_into-requires-clause-kept
sequences_into-requires-clause-kept c =
    let cs = c.args.classes.now in
    let controls : c.deref-2.result.now ≡ controls_from 0 cs = c.deref-2.ensures.value ∙ c.in_ok-controls_into.ensures in
    let places : c.deref-3.result.now ≡ explicit_places c.args.level cs = c.deref-3.ensures.value ∙ c.in_ok-places_into.ensures in
    subst (λ xs. AreKept xs c.deref-3.result.now) (sym controls)
    (subst (λ ps. AreKept (controls_from 0 cs) ps) (sym places) (are-kept c.args.level cs))

pub returns-in-Ok-clause-ok : goal.returns-in-Ok-clause-ok
returns-in-Ok-clause-ok c =
    let cs = c.args.classes.now in
    let controls : c.deref-2.result.now ≡ controls_from 0 cs = c.deref-2.ensures.value ∙ c.in_ok-controls_into.ensures in
    embedding-is cs c.args.level c.places_into.new.places.items _ c.deref-2.result.now
    c.in_ok-places_into.ensures controls (rw c.deref-3.ensures.value at c.in-Ok.ensures.sequences)
