-- The goals of `code_points` that are answered by hand.
use Rattle.std.proofs.Common.{rules}
use Rattle.std.proofs.lemmas.Str.{chars_from_encodes}
use Rattle.desk_runs.proofs.walking.code_points.Goals as goal

pub returns : goal.returns
returns c = search (rules, chars_from_encodes)
