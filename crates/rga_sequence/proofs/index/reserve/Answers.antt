-- The goals of `reserve` that are answered by hand.
use Rattle.std.proofs.Common.{◌≡◌, ◌∙◌, refl, sym, length, ap, arith}
use Rattle.std.specs.HashMap.{get, hash_map_len}
use Rattle.bg_types.specs.Identifier.{Identifier}
use Rattle.rga_sequence.specs.declared.index.Index.{Index}
use Rattle.rga_sequence.specs.Grouped.{IsGrouped}
use Rattle.rga_sequence.proofs.Homes.{id_eq}
use Rattle.rga_sequence.proofs.index.reserve.Goals as goal

-- where only memory was made, the groups stay as they are
IsGrouped-kept : (old new : Index) → IsGrouped id_eq old → hash_map_len new.groups ≡ hash_map_len old.groups → ((g : Identifier) → get id_eq new.groups g ≡ get id_eq old.groups g)
    → new.numbers.items ≡ old.numbers.items → new.recent ≡ old.recent → IsGrouped id_eq new
IsGrouped-kept old new was len same numbers recent = record {
  sized = omega (arith, ap length numbers, was.sized, len);
  within = λ g place is. omega (arith, was.within g place (sym (same g) ∙ is), len);
  apart = λ g h place a b. was.apart g h place (sym (same g) ∙ a) (sym (same h) ∙ b);
  recent = λ g place is. same g ∙ was.recent g place (sym recent ∙ is);
}

pub returns-in_err-reserve-clause-grouped : goal.returns-in_err-reserve-clause-grouped
returns-in_err-reserve-clause-grouped c = let same = c.reserve.ensures.entries in IsGrouped-kept c.args.index.now _ c.requires.grouped same.1 same.2 refl refl

pub returns-in_err-reserve-2-clause-grouped : goal.returns-in_err-reserve-2-clause-grouped
returns-in_err-reserve-2-clause-grouped c = let same = c.reserve.ensures.entries in IsGrouped-kept c.args.index.now _ c.requires.grouped same.1 same.2 c.reserve-2.ensures.items refl

pub returns-in_err-reserve-3-clause-grouped : goal.returns-in_err-reserve-3-clause-grouped
returns-in_err-reserve-3-clause-grouped c = let same = c.reserve.ensures.entries in IsGrouped-kept c.args.index.now _ c.requires.grouped same.1 same.2 c.reserve-2.ensures.items refl

pub returns-clause-grouped : goal.returns-clause-grouped
returns-clause-grouped c = let same = c.reserve.ensures.entries in IsGrouped-kept c.args.index.now _ c.requires.grouped same.1 same.2 c.reserve-2.ensures.items refl
