-- What a desk with S answers to an operation: reply(S, op) of the definition DeskSet.
use Rattle.std.specs.Prelude.{◌≡◌, ◌<◌, ◌≤◌, ◌+◌, ℕ, length, Result, OnOk, OnErr, IfErr, MatchResult}
use Rattle.bg_types.specs.OperationSet.{OperationSet, Holds, MayJoin, ReusesIdentifier, with_operation, size}
use Rattle.bg_types.specs.declared.op.Place.TheVariants.{Root}
use Rattle.bg_types.specs.declared.op.OpView.{OpView}
use Rattle.bg_types.specs.declared.op.OpView.TheVariants.{Insert, Erase}
use Rattle.rga_tree.specs.Walk.{walk}
use Rattle.rga_tree.specs.Attached.{IsAttached}
use Rattle.desk_replica.specs.Desk.{Desk}
use Rattle.desk_replica.specs.declared.answer.Taken.{Taken}
use Rattle.desk_replica.specs.declared.answer.Taken.TheVariants.{Known, Placed, Hidden, Held}
use Rattle.desk_replica.specs.declared.answer.TakeFault.{TakeFault}
use Rattle.desk_replica.specs.declared.answer.TakeFault.TheVariants.{IdentifierReused, Full, Memory}

-- how many insertions are attached: the walk lists each once
abbrev pub attached_count : OperationSet → ℕ
attached_count s = length (walk s Root)

-- the operation inserts an identifier that is attached in S + op
abbrev pub IsPlacing : OperationSet → OpView → Type 0
IsPlacing s (Insert id parent ch) = IsAttached (with_operation s (Insert id parent ch)).ins id
IsPlacing s (Erase target) = ⊥

-- the operation deletes an attached identifier
abbrev pub IsHiding : OperationSet → OpView → Type 0
IsHiding s (Insert id parent ch) = ⊥
IsHiding s (Erase target) = IsAttached s.ins target

-- the operation is not in S, no identifier is reused, and S has fewer than 1,000,000
pub record IsAdmitted (s : OperationSet) (op : OpView) : Type 0 where
  pub joins : MayJoin s op
  pub is_new : ¬ (Holds s op)
  pub room : size s < 1_000_000

-- the answers to an operation that is taken; n is the growth of attached less 1
abbrev pub IsTaken : OperationSet → OpView → Taken → Type 0
IsTaken s op Known = Holds s op
IsTaken s op (Placed n) = IsAdmitted s op × IsPlacing s op × (attached_count (with_operation s op) ≡ attached_count s + n + 1)
IsTaken s op Hidden = IsAdmitted s op × IsHiding s op
IsTaken s op Held = IsAdmitted s op × (¬ (IsPlacing s op)) × (¬ (IsHiding s op))

-- S refuses the operation: it inserts an identifier of S with another parent or character, or is new where S has
-- 1,000,000. Lack of memory is no refusal of an operation
abbrev pub IsRefusal : OperationSet → OpView → TakeFault → Type 0
IsRefusal s op IdentifierReused = ReusesIdentifier s op
IsRefusal s op Full = MayJoin s op × (¬ (Holds s op)) × (size s ≡ 1_000_000)
IsRefusal s op Memory = ⊥

-- the faults: those refusals, and lack of memory, which meets only what is to be placed or held
abbrev pub IsRefused : OperationSet → OpView → TakeFault → Type 0
IsRefused s op IdentifierReused = IsRefusal s op IdentifierReused
IsRefused s op Full = IsRefusal s op Full
IsRefused s op Memory = IsAdmitted s op × (¬ (IsHiding s op))

-- a desk took an operation, answered, and is after now
pub record IsTake (desk : Desk) (op : OpView) (after : Desk) (answer : Result Taken TakeFault) : Type 0 where
  pub answer_is : MatchResult answer (IsTaken desk.set op) (IsRefused desk.set op)
  pub accepted : OnOk answer ((fault : TakeFault) → ¬ (IsRefusal desk.set op fault))
  pub ok : OnOk answer (after.set ≡ with_operation desk.set op)
  pub err : OnErr answer (after ≡ desk)
  pub site : after.site ≡ desk.site
  pub spare : size desk.set + desk.spare ≤ size after.set + after.spare
  pub unpaid : IfErr answer (λ fault. fault ≡ Memory → desk.spare ≡ 0)
