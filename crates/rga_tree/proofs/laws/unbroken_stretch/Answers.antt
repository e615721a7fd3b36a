-- The goals of `unbroken_stretch` that are answered by hand.
use Rattle.rga_tree.proofs.Below.{stretch_of}
use Rattle.rga_tree.proofs.Runs.{runs_apart, runs_at_one_place, IsRun-more}
use Rattle.rga_tree.proofs.laws.unbroken_stretch.Goals as goal

pub returns-clause-stretch : goal.returns-clause-stretch
returns-clause-stretch c = stretch_of

pub returns-clause-runs : goal.returns-clause-runs
returns-clause-runs c = runs_apart

pub returns-clause-one_place : goal.returns-clause-one_place
returns-clause-one_place c = runs_at_one_place

pub returns-clause-stays : goal.returns-clause-stays
returns-clause-stays c = IsRun-more
