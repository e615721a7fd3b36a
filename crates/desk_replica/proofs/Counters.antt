-- The numbers of a set with one more operation.
use Rattle.std.proofs.Common.{◌≡◌, ◌≤◌, ◌<◌, ◌+◌, ℕ, false, [], ◌∷◌, Option, None, Some, is_some, refl, sym, ap, subst, arith, inl, inr}
use Rattle.std.specs.FinMap as map
use Rattle.std.specs.Prelude.{All, max}
use Rattle.std.proofs.lemmas.List.Elements.{All-nil, All-cons, All-head, All-tail}
use Rattle.bg_types.specs.WellFormed.{IsWellFormed}
use Rattle.bg_types.specs.Identifier.{Identifier}
use Rattle.bg_types.specs.OperationSet.{Node, OperationSet, Holds, MayJoin, named_counters, parent_counters, next, with_operation}
use Rattle.bg_types.specs.declared.op.Place.TheVariants.{Root, After}
use Rattle.bg_types.specs.declared.op.OpView.{OpView}
use Rattle.bg_types.specs.declared.op.OpView.TheVariants.{Insert, Erase}
use Rattle.bg_types.proofs.Interface.{Holds-with_operation, size-with_operation, next-above, next-least}
use Rattle.pending_ops.specs.Releasing.{subject}
use Rattle.desk_replica.specs.Placement.{IsCounted}

-- the subject's counter is the greatest that an operation names
named_upto : (op : OpView) (n : ℕ) → IsWellFormed op → (subject op).counter < n → All (λ c. c < n) (named_counters op)
named_upto (Insert id Root ch) n is h = All-cons (λ c. c < n) id.counter [] h (All-nil (λ c. c < n))
named_upto (Insert id (After parent) ch) n is h =
    let below = is.1.1 in
    All-cons (λ c. c < n) id.counter (parent.counter ∷ []) h (All-cons (λ c. c < n) parent.counter [] (omega arith) (All-nil (λ c. c < n)))
named_upto (Erase target) n is h = All-cons (λ c. c < n) target.counter [] h (All-nil (λ c. c < n))

named_first : (op : OpView) (n : ℕ) → All (λ c. c < n) (named_counters op) → (subject op).counter < n
named_first (Insert id parent ch) n h = All-head (λ c. c < n) id.counter (parent_counters parent) h
named_first (Erase target) n h = All-head (λ c. c < n) target.counter [] h

all_up : (m n : ℕ) (op : OpView) → m ≤ n → All (λ c. c < m) (named_counters op) → All (λ c. c < n) (named_counters op)
all_up m n (Insert id Root ch) le h = let a = named_first (Insert id Root ch) m h in All-cons (λ c. c < n) id.counter [] (omega arith) (All-nil (λ c. c < n))
all_up m n (Insert id (After parent) ch) le h =
    let a = named_first (Insert id (After parent) ch) m h in
    let b = All-head (λ c. c < m) parent.counter [] (All-tail (λ c. c < m) id.counter (parent.counter ∷ []) h) in
    All-cons (λ c. c < n) id.counter (parent.counter ∷ []) (omega arith) (All-cons (λ c. c < n) parent.counter [] (omega arith) (All-nil (λ c. c < n)))
all_up m n (Erase target) le h = let a = named_first (Erase target) m h in All-cons (λ c. c < n) target.counter [] (omega arith) (All-nil (λ c. c < n))

next-with : (s : OperationSet) (op : OpView) → MayJoin s op → IsWellFormed op → next (with_operation s op) ≡ max (next s) ((subject op).counter + 1)
next-with s op may is =
    let n = max (next s) ((subject op).counter + 1) in
    let t = with_operation s op in
    let some : 0 < n = omega arith in
    let upto : next t ≤ n = next-least t n some (λ x h. elim ((Holds-with_operation s op x may).0 h) [
      | inl e ↦ let own : (subject op).counter < n = omega arith in subst (λ y. All (λ c. c < n) (named_counters y)) (sym e) (named_upto op n is own)
      | inr old ↦ all_up (next s) n x (omega arith) (next-above s x old)
    ]) in
    let kept : next s ≤ next t = next-least s (next t) (omega arith) (λ x h. next-above t x ((Holds-with_operation s op x may).1 (inr h))) in
    let own = named_first op (next t) (next-above t op ((Holds-with_operation s op op may).1 (inl refl))) in
    omega arith

pub IsCounted-with : (s : OperationSet) (op : OpView) (kept greatest : ℕ) → IsCounted s kept greatest → MayJoin s op → ¬ (Holds s op) → IsWellFormed op → kept < 1_000_000
    → IsCounted (with_operation s op) (kept + 1) (max greatest (subject op).counter)
IsCounted-with s op kept greatest c may is_new is room = record {
  kept_is = let e = size-with_operation s op may is_new in let k = c.kept_is in omega arith;
  limited = omega arith;
  next_is = let e = next-with s op may is in let k = c.next_is in omega arith;
}

-- an operation whose subject's counter is above all that S names is new
not_held : (s : OperationSet) (op : OpView) → next s ≤ (subject op).counter → ¬ (Holds s op)
not_held s op above h = let below = named_first op (next s) (next-above s op h) in absurd (omega arith)

pub newest-is_new : (s : OperationSet) (op : OpView) → next s ≤ (subject op).counter → MayJoin s op × (¬ (Holds s op))
newest-is_new s (Insert id parent ch) above = ((λ kept e. absurd (not_held s (Insert id kept.parent kept.ch) above e)), not_held s (Insert id parent ch) above)
newest-is_new s (Erase target) above = (tt, not_held s (Erase target) above)

-- nor is its identifier inserted
pub beyond-is_new : (s : OperationSet) (id : Identifier) → next s ≤ id.counter → map.contains_key s.ins id ≡ false
beyond-is_new s id above = by_kept (map.get s.ins id) refl where
  by_kept : (kept : Option Node) → map.get s.ins id ≡ kept → map.contains_key s.ins id ≡ false
  by_kept None is = ap is_some is
  by_kept (Some node) is = absurd (not_held s (Insert id node.parent node.ch) above is)
