-- The goals of `has` that are answered by hand.
use Rattle.std.proofs.Common.{◌≡◌, ℕ, ◌<◌, ◌∙◌, Bool, true, false, refl, sym, arith}
use Rattle.std.proofs.lemmas.Bool.{leb-true}
use Rattle.std.proofs.Math.Dec.{leb}
use Rattle.rga_tree.proofs.Interface.{has_row}
use Rattle.rga_runs.specs.Stretches.{elements_in}
use Rattle.rga_runs.specs.Indexed.{stretches_in}
use Rattle.rga_runs.proofs.Counters.{above_all}
use Rattle.rga_runs.proofs.Whole.{kept_apart, has_stands}
use Rattle.rga_runs.proofs.runs.RunsSequence.has.Goals as goal

above_le : (a b : ℕ) → b < a → leb a b ≡ false
above_le a b above = by_test (leb a b) refl where
  by_test : (t : Bool) → leb a b ≡ t → leb a b ≡ false
  by_test true is = let low = leb-true a b is in absurd (omega (arith, low, above))
  by_test false is = is

pub stands-requires-clause-apart : goal.stands-requires-clause-apart
stands-requires-clause-apart c = kept_apart c.args.self.now.characters.items (stretches_in c.args.self.now.row) c.args.self.now.stored c.args.self.now.keeps_walk

pub returns-then-counter-self : goal.returns-then-counter-self
returns-then-counter-self c =
    let self = c.args.self.now in
    let chars = self.characters.items in
    let ss = stretches_in self.row in
    has_stands c.args.id chars ss c.stands.result self.stored (kept_apart chars ss self.stored self.keeps_walk) c.stands.ensures.yes c.stands.ensures.no
    ∙ sym (has_row (elements_in chars ss) c.args.id)

pub returns-else-counter-self : goal.returns-else-counter-self
returns-else-counter-self c =
    let self = c.args.self.now in
    let row = elements_in self.characters.items (stretches_in self.row) in
    above_le c.counter.result self.highest (omega (arith, c.if-counter-self.false))
    ∙ sym (has_row row c.args.id ∙ above_all c.args.id self.highest row self.up_to (omega (arith, c.if-counter-self.false, c.counter.ensures.value)))
