-- The bytes of a file or a listing decide the answer, memory aside.
use Rattle.std.proofs.Common.{◌≡◌, ℕ, ◌⊎◌, inl, inr, Bool, true, List, Option, Result, Ok, Err, refl, ap, subst, ◌∙◌}
use Rattle.std.specs.Prelude.{◌↔◌, MatchResult}
use Rattle.std.specs.Io.KnownBytes.{Appends, Keeps}
use Rattle.bg_types.specs.Sink.{AppendsBeginning}
use Rattle.bg_types.specs.declared.op.OpView.{OpView}
use Rattle.op_codec.specs.declared.fault.Cause.{Cause}
use Rattle.op_codec.specs.declared.position.Version.TheVariants.{Two}
use Rattle.op_codec.specs.Spelling.{spelling, spelling_in, Spells}
use Rattle.op_codec.specs.Fault.{IsFault}
use Rattle.op_codec.specs.Migration.{IsMigration}
use Rattle.op_listing.specs.declared.line_fault.LineFault.{LineFault}
use Rattle.op_listing.specs.declared.file_fault.FileFault.{FileFault}
use Rattle.op_listing.specs.declared.file_fault.FileFault.TheVariants as file
use Rattle.op_listing.specs.declared.listing_fault.ListingFault.{ListingFault}
use Rattle.op_listing.specs.declared.listing_fault.ListingFault.TheVariants as listing
use Rattle.op_listing.specs.Listing.{listing_of}
use Rattle.op_listing.specs.Listed.{Lists, IsFaultyLine}
use Rattle.op_listing.specs.Outcome.{IsDumpOutcome, IsMigrateOutcome, IsPackOutcome}
use Rattle.op_listing.proofs.Listings.{one_listed, listed_apart, one_faulty_line}

-- ---- dump

-- what the laws of operation files say
pub record FileLaws : Type 0 where
  pub one_list : (file : List ℕ) (a b : List OpView) → Spells file a → Spells file b → a ≡ b
  pub never_both : (file : List ℕ) (ops : List OpView) (frame : ℕ) (cause : Cause) → Spells file ops → IsFault file frame cause → ⊥
  pub one_fault : (file : List ℕ) (m n : ℕ) (c d : Cause) → IsFault file m c → IsFault file n d → (m ≡ n) × (c ≡ d)

module _ (laws : FileLaws) (bytes : List ℕ) (old new : Option (List ℕ)) (failed : Bool) where
  pub dump-spelled : (r : Result (Unit {0}) FileFault) (ops : List OpView) → IsDumpOutcome bytes old new failed r → Spells bytes ops
      → MatchResult r (λ _. Appends old new (listing_of ops)) (λ fault. ((fault ≡ file.Device) × AppendsBeginning old new (listing_of ops)) ⊎ ((fault ≡ file.Memory) × Keeps old new))
  dump-spelled (Ok done) ops h spelled = subst (λ (l : List OpView). Appends old new (listing_of l)) (laws.one_list bytes h.1.ops ops h.1.spelled spelled) h.1.written
  dump-spelled (Err (file.Malformed frame cause)) ops h spelled = absurd (laws.never_both bytes ops frame cause spelled h.2)
  dump-spelled (Err file.Device) ops h spelled = inl (refl, subst (λ (l : List OpView). AppendsBeginning old new (listing_of l)) (laws.one_list bytes h.1.ops ops h.1.spelled spelled) h.1.written)
  dump-spelled (Err file.Memory) ops h spelled = inr (refl, h.1)

  pub dump-faulty : (r : Result (Unit {0}) FileFault) (frame : ℕ) (cause : Cause) → IsDumpOutcome bytes old new failed r → IsFault bytes frame cause
      → ((r ≡ Err (file.Malformed frame cause)) ⊎ (r ≡ Err file.Memory)) × Keeps old new
  dump-faulty (Ok done) frame cause h faulty = absurd (laws.never_both bytes h.1.ops frame cause h.1.spelled faulty)
  dump-faulty (Err (file.Malformed again other)) frame cause h faulty =
      let one = laws.one_fault bytes again frame other cause h.2 faulty in
      (inl (λ i. Err (file.Malformed (one.0 i) (one.1 i))), h.1)
  dump-faulty (Err file.Device) frame cause h faulty = absurd (laws.never_both bytes h.1.ops frame cause h.1.spelled faulty)
  dump-faulty (Err file.Memory) frame cause h faulty = (inr refl, h.1)

pub dump-device : (bytes : List ℕ) (old new : Option (List ℕ)) (failed : Bool) (r : Result (Unit {0}) FileFault) → IsDumpOutcome bytes old new failed r → (failed ≡ true) ↔ (r ≡ Err file.Device)
dump-device bytes old new failed (Ok done) h = let working = h.0 in ((λ e. absurd cc), (λ e. absurd cc))
dump-device bytes old new failed (Err (file.Malformed frame cause)) h = let working = h.0 in ((λ e. absurd cc), (λ e. absurd cc))
dump-device bytes old new failed (Err file.Device) h = ((λ e. refl), (λ e. h.0))
dump-device bytes old new failed (Err file.Memory) h = let working = h.0 in ((λ e. absurd cc), (λ e. absurd cc))

-- ---- migrate

module _ (laws : FileLaws) (bytes : List ℕ) (old new : Option (List ℕ)) (failed : Bool) where
  migrated_is : (migrated : List ℕ) (ops : List OpView) → IsMigration bytes migrated → Spells bytes ops → migrated ≡ spelling_in Two ops
  migrated_is migrated ops m spelled = m.to.bytes ∙ ap (λ (l : List OpView). spelling_in Two l) (laws.one_list bytes m.ops ops m.from spelled)

  pub migrate-spelled : (r : Result (Unit {0}) FileFault) (ops : List OpView) → IsMigrateOutcome bytes old new failed r → Spells bytes ops
      → MatchResult r (λ _. Appends old new (spelling_in Two ops)) (λ fault. ((fault ≡ file.Device) × AppendsBeginning old new (spelling_in Two ops)) ⊎ ((fault ≡ file.Memory) × Keeps old new))
  migrate-spelled (Ok done) ops h spelled = subst (λ (s : List ℕ). Appends old new s) (migrated_is h.1.migrated ops h.1.migration spelled) h.1.written
  migrate-spelled (Err (file.Malformed frame cause)) ops h spelled = absurd (laws.never_both bytes ops frame cause spelled h.2)
  migrate-spelled (Err file.Device) ops h spelled = inl (refl, subst (λ (s : List ℕ). AppendsBeginning old new s) (migrated_is h.1.migrated ops h.1.migration spelled) h.1.written)
  migrate-spelled (Err file.Memory) ops h spelled = inr (refl, h.1)

  pub migrate-faulty : (r : Result (Unit {0}) FileFault) (frame : ℕ) (cause : Cause) → IsMigrateOutcome bytes old new failed r → IsFault bytes frame cause
      → ((r ≡ Err (file.Malformed frame cause)) ⊎ (r ≡ Err file.Memory)) × Keeps old new
  migrate-faulty (Ok done) frame cause h faulty = absurd (laws.never_both bytes h.1.migration.ops frame cause h.1.migration.from faulty)
  migrate-faulty (Err (file.Malformed again other)) frame cause h faulty =
      let one = laws.one_fault bytes again frame other cause h.2 faulty in
      (inl (λ i. Err (file.Malformed (one.0 i) (one.1 i))), h.1)
  migrate-faulty (Err file.Device) frame cause h faulty = absurd (laws.never_both bytes h.1.migration.ops frame cause h.1.migration.from faulty)
  migrate-faulty (Err file.Memory) frame cause h faulty = (inr refl, h.1)

pub migrate-device : (bytes : List ℕ) (old new : Option (List ℕ)) (failed : Bool) (r : Result (Unit {0}) FileFault) → IsMigrateOutcome bytes old new failed r → (failed ≡ true) ↔ (r ≡ Err file.Device)
migrate-device bytes old new failed (Ok done) h = let working = h.0 in ((λ e. absurd cc), (λ e. absurd cc))
migrate-device bytes old new failed (Err (file.Malformed frame cause)) h = let working = h.0 in ((λ e. absurd cc), (λ e. absurd cc))
migrate-device bytes old new failed (Err file.Device) h = ((λ e. refl), (λ e. h.0))
migrate-device bytes old new failed (Err file.Memory) h = let working = h.0 in ((λ e. absurd cc), (λ e. absurd cc))

-- ---- pack

module _ (bytes : List ℕ) (old new : Option (List ℕ)) (failed : Bool) where
  pub pack-listed : (r : Result (Unit {0}) ListingFault) (ops : List OpView) → IsPackOutcome bytes old new failed r → Lists bytes ops
      → MatchResult r (λ _. Appends old new (spelling ops)) (λ fault. ((fault ≡ listing.Device) × AppendsBeginning old new (spelling ops)) ⊎ ((fault ≡ listing.Memory) × Keeps old new))
  pack-listed (Ok done) ops h listed = subst (λ (l : List OpView). Appends old new (spelling l)) (one_listed bytes h.1.ops ops h.1.listed listed) h.1.written
  pack-listed (Err (listing.Malformed line fault)) ops h listed = absurd (listed_apart bytes ops line fault listed h.2)
  pack-listed (Err listing.Device) ops h listed = inl (refl, subst (λ (l : List OpView). AppendsBeginning old new (spelling l)) (one_listed bytes h.1.ops ops h.1.listed listed) h.1.written)
  pack-listed (Err listing.Memory) ops h listed = inr (refl, h.1)

  pub pack-faulty : (r : Result (Unit {0}) ListingFault) (line : ℕ) (fault : LineFault) → IsPackOutcome bytes old new failed r → IsFaultyLine bytes line fault
      → ((r ≡ Err (listing.Malformed line fault)) ⊎ (r ≡ Err listing.Memory)) × Keeps old new
  pack-faulty (Ok done) line fault h faulty = absurd (listed_apart bytes h.1.ops line fault h.1.listed faulty)
  pack-faulty (Err (listing.Malformed n other)) line fault h faulty =
      let one = one_faulty_line bytes n line other fault h.2 faulty in
      (inl (λ i. Err (listing.Malformed (one.0 i) (one.1 i))), h.1)
  pack-faulty (Err listing.Device) line fault h faulty = absurd (listed_apart bytes h.1.ops line fault h.1.listed faulty)
  pack-faulty (Err listing.Memory) line fault h faulty = (inr refl, h.1)

  pub pack-device : (r : Result (Unit {0}) ListingFault) → IsPackOutcome bytes old new failed r → (failed ≡ true) ↔ (r ≡ Err listing.Device)
  pack-device (Ok done) h = let working = h.0 in ((λ e. absurd cc), (λ e. absurd cc))
  pack-device (Err (listing.Malformed line fault)) h = let working = h.0 in ((λ e. absurd cc), (λ e. absurd cc))
  pack-device (Err listing.Device) h = ((λ e. refl), (λ e. h.0))
  pack-device (Err listing.Memory) h = let working = h.0 in ((λ e. absurd cc), (λ e. absurd cc))
