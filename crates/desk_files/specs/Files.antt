-- What a list of operation files has, or what is wrong with it first.
use Rattle.std.specs.Prelude.{◌≡◌, ◌+◌, ℕ, List, ◌∷◌, ◌++◌, length, map as each}
use Rattle.std.specs.Global.{Vec}
use Rattle.std.specs.List.{AllZip, flat_map}
use Rattle.bg_types.specs.OperationSet.{OperationSet}
use Rattle.bg_types.specs.declared.op.OpView.{OpView}
use Rattle.desk_replica.specs.declared.answer.TakeFault.{TakeFault}
use Rattle.desk_replica.specs.SetOf.{IsSetOf}
use Rattle.desk_replica.specs.Refusal.{IsFirstRefusal}
use Rattle.desk_files.specs.Reading.{IsReadAs, Flaw, IsFlawed}

-- the bytes of each file
abbrev pub bytes_of : List (Vec ℕ) → List (List ℕ)
bytes_of files = each (λ file. file.items) files

-- the operations of each file
abbrev pub lists_of : List (Vec OpView) → List (List OpView)
lists_of files = each (λ ops. ops.items) files

-- the lists, one after the other
abbrev pub joined : List (List OpView) → List OpView
joined lists = flat_map (λ ops. ops) lists

-- S is the set of all operations of the files
pub record IsSetOfFiles (files : List (List ℕ)) (s : OperationSet) : Type 0 where
  pub lists : List (List OpView)
  pub spelled : AllZip IsReadAs files lists
  pub of_all : IsSetOf (joined lists) s

-- file n, from 1, is the first faulty one, and this is wrong with it first
pub record IsFaultyFile (files : List (List ℕ)) (n : ℕ) (flaw : Flaw) : Type 0 where
  pub before : List (List ℕ)
  pub file : List ℕ
  pub after : List (List ℕ)
  pub lists : List (List OpView)
  pub in_order : files ≡ before ++ file ∷ after
  pub number : n ≡ length before + 1
  pub spelled : AllZip IsReadAs before lists
  pub shown : IsFlawed file flaw

-- all files are read, and a desk that takes their operations in order refuses one, first for this fault
pub record AreRefused (files : List (List ℕ)) (fault : TakeFault) : Type 0 where
  pub lists : List (List OpView)
  pub spelled : AllZip IsReadAs files lists
  pub first : IsFirstRefusal (joined lists) fault
