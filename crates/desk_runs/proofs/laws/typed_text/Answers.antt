-- The goals of `typed_text` that are answered by hand.
use Rattle.std.proofs.Common.{subst}
use Rattle.std.specs.Str.{chars}
use Rattle.bg_types.specs.OperationSet.{OperationSet}
use Rattle.rga_tree.specs.TextOf.{text}
use Rattle.desk_runs.specs.Changing.{replaced, place_in}
use Rattle.desk_runs.specs.SameFiles.{ReadAs}
use Rattle.desk_runs.proofs.Erased.{EditLaws}
use Rattle.desk_runs.proofs.Together.{read_together}
use Rattle.desk_runs.proofs.laws.typed_text.Goals as goal

pub returns : goal.returns
returns c = λ version files more change words file s is_typed of_files same.
    let laws : EditLaws = record { typed = c.typed_and_erased.ensures.typed; erased = c.typed_and_erased.ensures.erased; counter = c.typed_and_erased.ensures.counter } in
    subst (λ (x : OperationSet). ReadAs more (replaced (text x) (place_in x change) change.erased (chars words)))
    ((c.one_outcome.ensures files).one_set is_typed.set s is_typed.of_files of_files)
    (read_together c.one_spelling.ensures.one_list laws version files more change words file is_typed same)
