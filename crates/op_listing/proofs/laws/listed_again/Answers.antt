-- The goals of `listed_again` that are answered by hand.
use Rattle.op_listing.specs.Listing.{listing_of}
use Rattle.op_listing.proofs.Listings.{one_listed}
use Rattle.op_listing.proofs.ListedAgain.{listed_again}
use Rattle.op_listing.proofs.laws.listed_again.Goals as goal

pub returns-clause-lists : goal.returns-clause-lists
returns-clause-lists c = listed_again

pub returns-clause-reads_back : goal.returns-clause-reads_back
returns-clause-reads_back c = λ file ops again spelled listed. one_listed (listing_of ops) again ops listed (listed_again ops spelled.spelled.well_formed)
