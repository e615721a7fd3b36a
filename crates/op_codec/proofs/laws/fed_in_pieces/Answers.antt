-- The goals of `fed_in_pieces` that are answered by hand.
use Rattle.std.proofs.Common.{refl}
use Rattle.op_codec.proofs.Pieces.{all_fed, piece_taken, piece_faulty, piece_refused, fed_whole, fed_spelled, fed_fault}
use Rattle.op_codec.proofs.laws.fed_in_pieces.Goals as goal

pub returns-clause-begin : goal.returns-clause-begin
returns-clause-begin c = all_fed _ _ refl

pub returns-clause-taken : goal.returns-clause-taken
returns-clause-taken c = piece_taken

pub returns-clause-faulty : goal.returns-clause-faulty
returns-clause-faulty c = piece_faulty

pub returns-clause-refused : goal.returns-clause-refused
returns-clause-refused c = piece_refused

pub returns-clause-ops : goal.returns-clause-ops
returns-clause-ops c = fed_whole

pub returns-clause-spelled : goal.returns-clause-spelled
returns-clause-spelled c = fed_spelled

pub returns-clause-shown : goal.returns-clause-shown
returns-clause-shown c = fed_fault
