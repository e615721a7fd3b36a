-- The goals of `new_identifiers` that are answered by hand.
use Rattle.desk_runs.proofs.NewIdentifiers.{above, own_site, once, apart}
use Rattle.desk_runs.proofs.laws.new_identifiers.Goals as goal

pub returns : goal.returns
returns c = record { above = above; site = own_site; once = once; apart = apart }
