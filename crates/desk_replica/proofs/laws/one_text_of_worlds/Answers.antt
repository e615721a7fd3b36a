-- The goals of `one_text_of_worlds` that are answered by hand.
use Rattle.rga_tree.proofs.Interface.{text-same_operations}
use Rattle.desk_replica.specs.DeskSets.{set_at}
use Rattle.desk_replica.proofs.WorldLaws.{all_delivered}
use Rattle.desk_replica.proofs.laws.one_text_of_worlds.Goals as goal

pub returns : goal.returns
returns c = record {
  same = λ sites w v world later desk other there back. text-same_operations (set_at w.sets desk) (set_at v.sets other) there back;
  delivered = all_delivered;
}
