-- What the laws of lower crates say, as the calls of these laws hand it over.
use Rattle.std.proofs.Common.{◌≡◌, ◌≤◌, ◌⊎◌, ℕ, List}
use Rattle.std.specs.Prelude.{◌↔◌}
use Rattle.bg_types.specs.OperationSet.{OperationSet, Holds, MayJoin, with_operation, size}
use Rattle.bg_types.specs.declared.op.OpView.{OpView}
use Rattle.desk_replica.specs.declared.answer.TakeFault.{TakeFault}
use Rattle.desk_replica.specs.SetOf.{IsSetOf}
use Rattle.desk_replica.specs.Refusal.{IsFirstRefusal}
use Rattle.desk_files.specs.Reading.{IsReadAs, Flaw, IsFlawed}

-- a file is read as one list of operations, or has one flaw
pub record FileLaws : Type 0 where
  pub one_list : (file : List ℕ) (a b : List OpView) → IsReadAs file a → IsReadAs file b → a ≡ b
  pub never_both : (file : List ℕ) (ops : List OpView) (flaw : Flaw) → IsReadAs file ops → IsFlawed file flaw → ⊥
  pub one_flaw : (file : List ℕ) (f g : Flaw) → IsFlawed file f → IsFlawed file g → f ≡ g

-- a list of operations has one set, or one first refusal where the set is not within the limit
pub record ListLaws : Type 0 where
  pub one_set : (ops : List OpView) (s t : OperationSet) → IsSetOf ops s → IsSetOf ops t → s ≡ t
  pub one_refusal : (ops : List OpView) (f g : TakeFault) → IsFirstRefusal ops f → IsFirstRefusal ops g → f ≡ g
  pub none_refused : (ops : List OpView) (s : OperationSet) (fault : TakeFault) → IsSetOf ops s → size s ≤ 1_000_000 → IsFirstRefusal ops fault → ⊥

-- S + op holds op and what S holds
abbrev pub HoldsBoth : Type 0
HoldsBoth = (s : OperationSet) (op x : OpView) → MayJoin s op → Holds (with_operation s op) x ↔ ((x ≡ op) ⊎ Holds s x)
