-- The law of `parting`.
use Rattle.std.proofs.Common.{◌++◌, ◌∙◌}
use Rattle.std.proofs.lemmas.List.{take-append-drop}
use Rattle.rga_runs.specs.Typed.{typed}
use Rattle.rga_runs.proofs.Typed.{typed-take, typed-drop}
use Rattle.rga_runs.proofs.laws.parting.Goals as goal

pub returns : goal.returns
returns c = λ id parent hidden chs k. (λ i. typed-take id parent hidden chs k i ++ typed-drop id parent hidden chs k i) ∙ take-append-drop k (typed id parent hidden chs)
