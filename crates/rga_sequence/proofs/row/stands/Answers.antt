-- The goals of `stands` that are answered by hand.
use Rattle.std.proofs.Common.{◌≡◌, ◌∙◌, ℕ, Option, Some, None, refl, length, ap, arith}
use Rattle.std.specs.Prelude.{is_some, option_map}
use Rattle.rga_sequence.specs.BlockRows.{items_of, numbers_of}
use Rattle.rga_sequence.proofs.Members.{is_some-home}
use Rattle.rga_sequence.proofs.Numbers.{length-items, length-numbers}
use Rattle.rga_sequence.proofs.row.stands.Goals as goal

some_home : (o : Option (ℕ × ℕ)) → is_some o ≡ is_some (option_map (λ found. found.0) o)
some_home None = refl
some_home (Some found) = refl

pub returns-else-is_some : goal.returns-else-is_some
returns-else-is_some c =
    let bs = c.args.row.now.blocks.items in
    let len_xs : length (items_of bs) ≡ length bs = length-items bs in
    let len_ns : length (numbers_of bs) ≡ length bs = length-numbers bs in
    c.is_some-else-is_some.ensures ∙ some_home c.home.result ∙ ap is_some c.home.ensures ∙ ap is_some (c.requires.indexed.homes c.args.id) ∙ is_some-home (items_of bs) (numbers_of bs) c.args.id (omega (arith, len_xs, len_ns))
