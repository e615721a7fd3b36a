-- The goals of `place_of` that are answered by hand.
use Rattle.ucd_files.proofs.Places.{place-found, place-none}
use Rattle.ucd_files.proofs.line.place_of.Goals as goal

pub returns-in-Some-clause-place : goal.returns-in-Some-clause-place
returns-in-Some-clause-place c = place-found c.args.at c.in-Some.place c.args.bytes.now c.in-Some.ensures

pub returns-in-None-clause-place : goal.returns-in-None-clause-place
returns-in-None-clause-place c = place-none c.args.at c.args.bytes.now c.in-None.ensures
