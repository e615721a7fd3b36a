-- That a list of operation files has one outcome.
use Rattle.std.specs.Prelude.{◌≡◌, ◌≤◌, ℕ, List}
use Rattle.std.specs.List.{AllZip}
use Rattle.bg_types.specs.OperationSet.{OperationSet, size}
use Rattle.bg_types.specs.declared.op.OpView.{OpView}
use Rattle.desk_replica.specs.declared.answer.TakeFault.{TakeFault}
use Rattle.desk_files.specs.Reading.{IsReadAs, Flaw}
use Rattle.desk_files.specs.Files.{IsSetOfFiles, IsFaultyFile, AreRefused}

-- at most one list of operations for each file, one set, one first faulty file with its flaw, and one first refusal. A
-- faulty file excludes lists; a refusal excludes a set of at most 1,000,000 operations
pub record HaveOneOutcome (files : List (List ℕ)) : Type 0 where
  pub one_list : (xs ys : List (List OpView)) → AllZip IsReadAs files xs → AllZip IsReadAs files ys → xs ≡ ys
  pub one_set : (s t : OperationSet) → IsSetOfFiles files s → IsSetOfFiles files t → s ≡ t
  pub one_faulty : (m n : ℕ) (f g : Flaw) → IsFaultyFile files m f → IsFaultyFile files n g → (m ≡ n) × (f ≡ g)
  pub one_refusal : (f g : TakeFault) → AreRefused files f → AreRefused files g → f ≡ g
  pub spelled_or_faulty : (lists : List (List OpView)) (n : ℕ) (flaw : Flaw) → AllZip IsReadAs files lists → IsFaultyFile files n flaw → ⊥
  pub set_or_refusal : (s : OperationSet) (fault : TakeFault) → IsSetOfFiles files s → size s ≤ 1_000_000 → AreRefused files fault → ⊥
