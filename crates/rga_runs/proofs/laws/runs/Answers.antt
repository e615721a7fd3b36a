-- The law of `runs`.
use Rattle.std.proofs.Common.{◌≡◌, ℕ, List, [], ◌∷◌, refl}
use Rattle.std.specs.Prelude.{fold}
use Rattle.bg_types.specs.Identifier.{Identifier}
use Rattle.bg_types.specs.OperationSet.{OperationSet, with_operation}
use Rattle.bg_types.specs.declared.op.Place.{Place}
use Rattle.bg_types.specs.declared.op.Place.TheVariants.{After}
use Rattle.bg_types.specs.declared.op.OpView.TheVariants.{Insert}
use Rattle.rga_tree.specs.Elements.{with_element}
use Rattle.rga_tree.specs.Run.{later, insertions, with_operations}
use Rattle.rga_runs.specs.Typed.{typed}
use Rattle.rga_runs.proofs.laws.runs.Goals as goal

placed : (chs : List ℕ) (s : OperationSet) (id : Identifier) (parent : Place) → fold with_element s (typed id parent 0 chs) ≡ with_operations s (insertions id parent chs)
placed [] s id parent = refl
placed (ch ∷ chs) s id parent = placed chs (with_operation s (Insert id parent ch)) (later id 1) (After id)

pub returns : goal.returns
returns c = λ s id parent chs. placed chs s id parent
