-- What one desk that takes the operations of all files answered.
use Rattle.std.proofs.Common.{◌≡◌, ◌≤◌, ℕ, List, Option, Result, refl, sym, subst, inl, inr}
use Rattle.std.specs.Prelude.{true, false, Bool, Ok, Err, IfOk, IfErr, encode_utf8_all}
use Rattle.std.specs.List.{AllZip}
use Rattle.std.specs.Io.KnownBytes.{Appends}
use Rattle.std.proofs.KnownBytes.{Keeps-refl}
use Rattle.bg_types.specs.OperationSet.{OperationSet, size}
use Rattle.bg_types.specs.Sink.{AppendsBeginning}
use Rattle.bg_types.specs.declared.op.OpView.{OpView}
use Rattle.op_codec.specs.declared.fault.CodecFault.TheVariants as codec
use Rattle.rga_tree.specs.TextOf.{text}
use Rattle.desk_replica.specs.declared.answer.TakeFault.{TakeFault}
use Rattle.desk_replica.specs.declared.answer.TakeFault.TheVariants.{IdentifierReused, Full, Memory}
use Rattle.desk_files.specs.declared.run_fault.RunFault.{RunFault}
use Rattle.desk_files.specs.declared.run_fault.RunFault.TheVariants as run
use Rattle.desk_replica.specs.Refusal.{IsFirstRefusal}
use Rattle.desk_files.specs.Reading.{IsReadAs}
use Rattle.desk_files.specs.Files.{joined, IsSetOfFiles}
use Rattle.desk_files.specs.Cause.{IsTakingCaused, IsReadCaused, step_fault_of}
use Rattle.desk_files.specs.TextOutcome.{IsTextOfFiles, IsTextOutcome}

-- all files are read, and an operation is refused
pub taking-refused : (files : List (List ℕ)) (lists : List (List OpView)) (fault : TakeFault) → AllZip IsReadAs files lists → IsFirstRefusal (joined lists) fault → IsTakingCaused files (step_fault_of 0 1 fault)
taking-refused files lists Memory spelled first = tt
taking-refused files lists IdentifierReused spelled first = (refl, refl, record { lists = lists; spelled = spelled; first = first })
taking-refused files lists Full spelled first = (refl, refl, record { lists = lists; spelled = spelled; first = first })

-- a fault that reading the files ended with
pub taking-unread : (files : List (List ℕ)) (fault : RunFault) → IsReadCaused files fault → IsTakingCaused files fault
taking-unread files (run.Tables fault) h = h
taking-unread files (run.File n (codec.Malformed frame cause)) h = h
taking-unread files (run.File n codec.Memory) h = h
taking-unread files (run.Schedule line fault) h = h
taking-unread files (run.Step line desk fault) h = absurd h
taking-unread files (run.Listing line fault) h = h
taking-unread files run.Device h = h
taking-unread files (run.PastEnd place) h = h
taking-unread files (run.ReadFailed file) h = h
taking-unread files run.Memory h = tt
taking-unread files (run.TooLong n) h = h

-- ---- the text of the desk

pub text-read : {A : Type 0} (files : List (List ℕ)) (s : OperationSet) (bytes_of : A → List ℕ) (r : Result A RunFault) → IsSetOfFiles files s → size s ≤ 1_000_000
    → IfOk r (λ t. bytes_of t ≡ encode_utf8_all (text s)) → IfOk r (λ t. IsTextOfFiles files (bytes_of t))
text-read files s bytes_of (Ok t) of_files limited is = record { set = s; of_files = of_files; limited = limited; is = is }
text-read files s bytes_of (Err fault) of_files limited is = tt

pub text-unread : {A : Type 0} (files : List (List ℕ)) (r : Result A RunFault) → IfErr r (λ fault. fault ≡ run.Memory) → IfErr r (IsTakingCaused files)
text-unread files (Ok t) is = tt
text-unread files (Err fault) is = subst (IsTakingCaused files) (sym is) tt

-- ---- what `text` writes

pub text_unwritten : (files : List (List ℕ)) (old : Option (List ℕ)) (failed : Bool) (fault : RunFault) → failed ≡ false → IsTakingCaused files fault → IsTextOutcome files old old failed (Err fault)
text_unwritten files old failed fault working h = inl (h, (working, Keeps-refl old))

module _ (files : List (List ℕ)) (bytes : List ℕ) (old new : Option (List ℕ)) (failed : Bool) (read : IsTextOfFiles files bytes) where
  pub text_written : failed ≡ false → Appends old new bytes → IsTextOutcome files old new failed (Ok tt)
  text_written working written = (working, record { set = read.set; of_files = read.of_files; limited = read.limited; written = subst (Appends old new) read.is written })

  pub text_begun : failed ≡ true → AppendsBeginning old new bytes → IsTextOutcome files old new failed (Err run.Device)
  text_begun failing written = inr (refl, failing, record { set = read.set; of_files = read.of_files; limited = read.limited; written = subst (AppendsBeginning old new) read.is written })
