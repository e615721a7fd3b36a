-- The goals of `typed_and_erased` that are answered by hand.
use Rattle.desk_replica.proofs.Typing.{visible_erased}
use Rattle.desk_replica.proofs.Erasing.{next_erased}
use Rattle.desk_replica.proofs.WorldTyped.{visible_typed}
use Rattle.desk_replica.proofs.laws.typed_and_erased.Goals as goal

pub returns : goal.returns
returns c = record {
  typed = λ s site k ch well le formed. visible_typed s well site ch k le formed;
  erased = visible_erased;
  counter = next_erased;
}
