-- The goals of `stretches` that are answered by hand.
use Rattle.std.proofs.Common.{◌≡◌, ◌+◌, ◌++◌, ◌∷◌, suc, ap, ◌∙◌, arith}
use Rattle.std.proofs.lemmas.List.Elements.{recursion_from_All}
use Rattle.bg_types.specs.WellFormed.{IsWellFormed}
use Rattle.bg_types.specs.OperationSet.{with_operation}
use Rattle.desk_replica.specs.Typing.{typed, insertion}
use Rattle.desk_replica.specs.Replacement.{typed_text, deletions}
use Rattle.desk_replica.proofs.Ranges.{erased_then, visible_at}
use Rattle.desk_replica.proofs.Replacing.{typed_still}
use Rattle.desk_replica.proofs.Stretches.{one_then}
use Rattle.desk_replica.proofs.laws.stretches.Goals as goal

pub returns : goal.returns
returns c = record {
  typed = λ s site place ch chs well le formed.
      let up : suc place ≡ place + 1 = omega arith in
      one_then site s place ch chs well le (recursion_from_All IsWellFormed (typed_text s site place (ch ∷ chs)) formed)
      ∙ ap (λ k. insertion (typed s site place ch) ∷ typed_text (with_operation s (insertion (typed s site place ch))) site k chs) up;
  erased = λ s place count target well at.
      let up : count + 1 ≡ suc count = omega arith in
      ap (deletions s place) up ∙ erased_then place count s target well (visible_at s place target at) at;
  replaced = λ s site place count chs well within. ap (λ ops. deletions s place count ++ ops) (typed_still s place count well within site chs);
}
