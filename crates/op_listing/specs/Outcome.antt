-- What `dump`, `migrate` and `pack` answer, and what is written then.
use Rattle.std.specs.Prelude.{◌≡◌, ℕ, true, false, Bool, List, Option, Result, Ok, Err}
use Rattle.std.specs.Io.KnownBytes.{Appends, Keeps}
use Rattle.bg_types.specs.Sink.{AppendsBeginning}
use Rattle.bg_types.specs.declared.op.OpView.{OpView}
use Rattle.op_codec.specs.Spelling.{spelling, Spells}
use Rattle.op_codec.specs.Fault.{IsFault}
use Rattle.op_codec.specs.Migration.{IsMigration}
use Rattle.op_listing.specs.declared.file_fault.FileFault.{FileFault}
use Rattle.op_listing.specs.declared.file_fault.FileFault.TheVariants as file
use Rattle.op_listing.specs.declared.listing_fault.ListingFault.{ListingFault}
use Rattle.op_listing.specs.declared.listing_fault.ListingFault.TheVariants as listing
use Rattle.op_listing.specs.Listing.{listing_of}
use Rattle.op_listing.specs.Listed.{Lists, IsFaultyLine}

-- ---- dump

-- the written bytes grew by the listing of the file's operations
pub record WritesListing (bytes : List ℕ) (old new : Option (List ℕ)) : Type 0 where
  pub ops : List OpView
  pub spelled : Spells bytes ops
  pub written : Appends old new (listing_of ops)

-- the written bytes grew by a beginning of that listing
pub record BeginsListing (bytes : List ℕ) (old new : Option (List ℕ)) : Type 0 where
  pub ops : List OpView
  pub spelled : Spells bytes ops
  pub written : AppendsBeginning old new (listing_of ops)

-- what was written before and after, whether the sink has failed, and the answer: the whole listing; the file's first fault
-- and nothing written; a failed sink that took a beginning; or lack of memory and nothing written
abbrev pub IsDumpOutcome : List ℕ → (old new : Option (List ℕ)) → Bool → Result (Unit {0}) FileFault → Type 0
IsDumpOutcome bytes old new failed (Ok done) = (failed ≡ false) × WritesListing bytes old new
IsDumpOutcome bytes old new failed (Err (file.Malformed frame cause)) = (failed ≡ false) × Keeps old new × IsFault bytes frame cause
IsDumpOutcome bytes old new failed (Err file.Device) = (failed ≡ true) × BeginsListing bytes old new
IsDumpOutcome bytes old new failed (Err file.Memory) = (failed ≡ false) × Keeps old new

-- ---- migrate

-- the written bytes grew by the file's migration
pub record WritesMigration (bytes : List ℕ) (old new : Option (List ℕ)) : Type 0 where
  pub migrated : List ℕ
  pub migration : IsMigration bytes migrated
  pub written : Appends old new migrated

-- the written bytes grew by a beginning of it
pub record BeginsMigration (bytes : List ℕ) (old new : Option (List ℕ)) : Type 0 where
  pub migrated : List ℕ
  pub migration : IsMigration bytes migrated
  pub written : AppendsBeginning old new migrated

-- what was written before and after, whether the sink has failed, and the answer: the whole migrated file; the file's first
-- fault and nothing written; a failed sink that took a beginning; or lack of memory and nothing written
abbrev pub IsMigrateOutcome : List ℕ → (old new : Option (List ℕ)) → Bool → Result (Unit {0}) FileFault → Type 0
IsMigrateOutcome bytes old new failed (Ok done) = (failed ≡ false) × WritesMigration bytes old new
IsMigrateOutcome bytes old new failed (Err (file.Malformed frame cause)) = (failed ≡ false) × Keeps old new × IsFault bytes frame cause
IsMigrateOutcome bytes old new failed (Err file.Device) = (failed ≡ true) × BeginsMigration bytes old new
IsMigrateOutcome bytes old new failed (Err file.Memory) = (failed ≡ false) × Keeps old new

-- ---- pack

-- the written bytes grew by the file of the operations that the listing lists
pub record WritesFile (bytes : List ℕ) (old new : Option (List ℕ)) : Type 0 where
  pub ops : List OpView
  pub listed : Lists bytes ops
  pub written : Appends old new (spelling ops)

-- the written bytes grew by a beginning of that file
pub record BeginsFile (bytes : List ℕ) (old new : Option (List ℕ)) : Type 0 where
  pub ops : List OpView
  pub listed : Lists bytes ops
  pub written : AppendsBeginning old new (spelling ops)

-- a fault that ended the reading of the listing names its first faulty line; nothing was written yet, and lack of memory says
-- nothing of the listing
abbrev pub TellsLine : List ℕ → ListingFault → Type 0
TellsLine bytes (listing.Malformed line fault) = IsFaultyLine bytes line fault
TellsLine bytes listing.Device = ⊥
TellsLine bytes listing.Memory = Unit {0}

-- what was written before and after, whether the sink has failed, and the answer: the whole file; the listing's first faulty
-- line and nothing written; a failed sink that took a beginning; or lack of memory and nothing written
abbrev pub IsPackOutcome : List ℕ → (old new : Option (List ℕ)) → Bool → Result (Unit {0}) ListingFault → Type 0
IsPackOutcome bytes old new failed (Ok done) = (failed ≡ false) × WritesFile bytes old new
IsPackOutcome bytes old new failed (Err (listing.Malformed line fault)) = (failed ≡ false) × Keeps old new × IsFaultyLine bytes line fault
IsPackOutcome bytes old new failed (Err listing.Device) = (failed ≡ true) × BeginsFile bytes old new
IsPackOutcome bytes old new failed (Err listing.Memory) = (failed ≡ false) × Keeps old new
