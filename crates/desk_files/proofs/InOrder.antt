-- Operations that a desk took in order: what it holds then.
use Rattle.std.proofs.Common.{◌≡◌, ◌≤◌, ◌⊎◌, inl, inr, ℕ, zero, suc, List, [], ◌∷◌, ◌++◌, length, take, refl, sym, subst, arith, append_assoc, append-nil}
use Rattle.std.proofs.lemmas.List.{take_all}
use Rattle.std.proofs.lemmas.Option.{slice_get_within, get_or_from_slice_get}
use Rattle.bg_types.specs.OperationSet.{OperationSet, MayJoin, ReusesIdentifier, with_operation, size}
use Rattle.bg_types.specs.declared.op.OpView.{OpView}
use Rattle.desk_replica.specs.Desk.{Desk}
use Rattle.desk_replica.specs.Merging.{with_operations}
use Rattle.desk_replica.specs.Refusal.{IsFirstRefusal}
use Rattle.desk_replica.specs.SetOf.{IsSetOf}
use Rattle.desk_replica.specs.Taking.{AreAccepted, AreTaken, IsRefusedNext}
use Rattle.desk_replica.specs.declared.answer.TakeFault.{TakeFault}
use Rattle.desk_replica.specs.declared.answer.TakeFault.TheVariants.{IdentifierReused, Memory}
use Rattle.desk_files.proofs.AnyOrder.{Stands, stands}
use Rattle.desk_files.proofs.LowerLaws.{HoldsBoth}
use Rattle.desk_files.proofs.Taking.{IsSetOf-push, refused-at}
use Rattle.bg_types.proofs.Interface.{Holds-may_join}

-- an operation that isn't refused reuses no identifier
joins : (s : OperationSet) (op : OpView) → (ReusesIdentifier s op → ⊥) → Stands s op → MayJoin s op
joins s op never (inl reused) = absurd (never reused)
joins s op never (inr (inl held)) = Holds-may_join s op held
joins s op never (inr (inr new)) = new.0

set_of_accepted : HoldsBoth → (before ops : List OpView) (s : OperationSet) (n : ℕ) → n ≤ length ops → IsSetOf before s → AreAccepted s ops n → IsSetOf (before ++ take n ops) (with_operations s (take n ops))
set_of_accepted holds before ops s zero within h accepted = subst (λ l. IsSetOf l s) (sym (append-nil before)) h
set_of_accepted holds before [] s (suc n) within h accepted = absurd (omega (arith, within))
set_of_accepted holds before (op ∷ ops) s (suc n) within h accepted =
    let may = joins s op (λ reused. accepted 0 op IdentifierReused (omega arith) refl reused) (stands s op) in
    subst (λ l. IsSetOf l (with_operations (with_operation s op) (take n ops))) (append_assoc before (op ∷ []) (take n ops))
    (set_of_accepted holds (before ++ op ∷ []) ops (with_operation s op) n (omega (arith, within)) (IsSetOf-push holds before op s h may)
    (λ k q fault less at refused. accepted (suc k) q fault (omega (arith, less)) at refused))

set_of_taken : HoldsBoth → (before ops : List OpView) (n : ℕ) (desk after : Desk) → AreTaken desk ops n after → IsSetOf before desk.set → IsSetOf (before ++ take n ops) after.set
set_of_taken holds before ops n desk after taken h = subst (IsSetOf (before ++ take n ops)) (sym taken.set) (set_of_accepted holds before ops desk.set n taken.within h taken.accepted)

-- all of them are taken
pub set_of_all : HoldsBoth → (before ops : List OpView) (desk after : Desk) → AreTaken desk ops (length ops) after → IsSetOf before desk.set → IsSetOf (before ++ ops) after.set
set_of_all holds before ops desk after taken h =
    let all : length ops ≤ length ops = omega arith in
    subst (λ l. IsSetOf (before ++ l) after.set) (take_all (length ops) ops all) (set_of_taken holds before ops (length ops) desk after taken h)

-- the next one is refused
pub stopped_at : HoldsBoth → (before ops : List OpView) (n : ℕ) (desk after : Desk) (fault : TakeFault) → AreTaken desk ops n after → IsRefusedNext after ops n fault → IsSetOf before desk.set → size after.set ≤ 1_000_000
    → (fault ≡ Memory) ⊎ IsFirstRefusal (before ++ ops) fault
stopped_at holds before ops n desk after fault taken stop h limited =
    refused-at before ops n stop.op after.set fault (slice_get_within ops n stop.op stop.next) (sym (get_or_from_slice_get ops n stop.op stop.op stop.next)) (set_of_taken holds before ops n desk after taken h) limited stop.refused
