-- Erasing what is visible leaves the next counter.
use Rattle.std.proofs.Common.{◌≡◌, ◌≤◌, ◌<◌, ◌⊎◌, inl, inr, ℕ, Bool, true, not, [], Some, sym, subst, arith}
use Rattle.std.specs.Prelude.{All, slice_get, filter}
use Rattle.std.specs.FinMap as map
use Rattle.std.proofs.lemmas.List.Elements.{All-nil, All-cons, All-head}
use Rattle.bg_types.specs.Identifier.{Identifier}
use Rattle.bg_types.specs.OperationSet.{Node, OperationSet, Holds, MayJoin, named_counters, parent_counters, next, with_operation}
use Rattle.bg_types.specs.declared.op.Place.TheVariants.{Root}
use Rattle.bg_types.specs.declared.op.OpView.{OpView}
use Rattle.bg_types.specs.declared.op.OpView.TheVariants.{Insert, Erase}
use Rattle.bg_types.proofs.Interface.{next-above, next-least, Holds-with_operation}
use Rattle.rga_tree.specs.Walk.{walk}
use Rattle.rga_tree.specs.TextOf.{visible, visible_ids, is_erased}
use Rattle.rga_tree.proofs.Interface.{Entry, all_held, all_passing, all_weaker_by}
use Rattle.desk_replica.proofs.Lists.{all_at, slice_get-from}

-- what is visible is kept
pub visible_kept : (s : OperationSet) (k : ℕ) (target : Identifier) → slice_get (visible_ids s) k ≡ Some target → (node : Node) × (map.get s.ins target ≡ Some node)
visible_kept s k target at =
    let f = slice_get-from (λ (x : Entry). x.0) (visible s) k target at in
    let p : Entry → Bool = λ y. not (is_erased s y.0) in
    let kept : map.get s.ins f.0.0 ≡ Some f.0.1 = all_at (λ (y : Entry). map.get s.ins y.0 ≡ Some y.1) (filter p (walk s Root)) k f.0
    (all_passing (λ y. map.get s.ins y.0 ≡ Some y.1) p (walk s Root) (all_weaker_by (λ y. map.get s.ins y.0 ≡ Some y.1) (λ y. p y ≡ true → map.get s.ins y.0 ≡ Some y.1) (walk s Root) (λ y k _. k) (all_held s (map.len s.ins) Root))) f.1.0 in
    (f.0.1, subst (λ (q : Identifier). map.get s.ins q ≡ Some f.0.1) f.1.1 kept)

-- so its counter is below the next one
pub visible_below : (s : OperationSet) (k : ℕ) (target : Identifier) → slice_get (visible_ids s) k ≡ Some target → target.counter < next s
visible_below s k target at =
    let kept = visible_kept s k target at in
    All-head (λ c. c < next s) target.counter (parent_counters kept.0.parent) (next-above s (Insert target kept.0.parent kept.0.ch) kept.1)

-- so erasing it leaves the next counter
pub next_erased : (s : OperationSet) (k : ℕ) (target : Identifier) → slice_get (visible_ids s) k ≡ Some target → next (with_operation s (Erase target)) ≡ next s
next_erased s k target at =
    let below = visible_below s k target at in
    let t = with_operation s (Erase target) in
    let joins : MayJoin s (Erase target) = tt in
    let up : next t ≤ next s = next-least t (next s) (omega arith) (λ op h. grown (next s) op ((Holds-with_operation s (Erase target) op joins).0 h) below (λ k. next-above s op k)) in
    let down : next s ≤ next t = next-least s (next t) (omega arith) (λ op h. next-above t op ((Holds-with_operation s (Erase target) op joins).1 (inr h))) in
    omega arith
  where
    grown : (n : ℕ) (op : OpView) → (op ≡ Erase target) ⊎ Holds s op → target.counter < n → (Holds s op → All (λ c. c < n) (named_counters op)) → All (λ c. c < n) (named_counters op)
    grown n op (inl same) low kept = subst (λ (o : OpView). All (λ c. c < n) (named_counters o)) (sym same) (All-cons (λ c. c < n) target.counter [] low (All-nil (λ c. c < n)))
    grown n op (inr h) low kept = kept h
