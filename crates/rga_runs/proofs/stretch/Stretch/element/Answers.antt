-- The goal of `element` that is answered by hand.
use Rattle.std.proofs.Common.{◌≡◌, ◌∙◌, length, drop, get_or, Some, sym, arith}
use Rattle.std.proofs.lemmas.List.{get_or-take, get_or-drop}
use Rattle.rga_runs.specs.Stretches.{characters_of}
use Rattle.rga_runs.proofs.Typed.{typed-get}
use Rattle.rga_runs.proofs.Rows.{length-characters, stored_is}
use Rattle.rga_runs.proofs.stretch.Stretch.element.Goals as goal

pub returns : goal.returns
returns c =
    let s = c.args.self.now in
    let chars = c.args.chars.now in
    let k = c.args.k in
    let ch = c.index-chars-self.result in
    let long = length-characters chars s (stored_is (length chars) s c.requires.stored) in
    let there : get_or (characters_of chars s) k ch ≡ ch = get_or-take s.count (drop s.start chars) k ch c.requires.within ∙ get_or-drop s.start chars k ch ∙ sym c.index-chars-self.is in
    typed-get s.first s.parent s.hidden (characters_of chars s) k ch (omega (arith, long, c.requires.within))
    ∙ (λ i. Some (record { id = sym c.id_at.ensures i; parent = sym c.parent_of-parent.ensures i; ch = there i; hidden = sym c.hides.ensures i }))
