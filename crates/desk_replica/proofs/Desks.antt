-- What a desk keeps true.
use Rattle.std.proofs.Common.{◌≡◌, ◌≤◌, ◌<◌, ◌+◌, ℕ, true, [], take, sym, subst, ◌∙◌, refl, true≢false, arith}
use Rattle.std.specs.Prelude.{max}
use Rattle.std.specs.FinMap as map
use Rattle.std.specs.FinSet as set
use Rattle.bg_types.specs.Identifier.{Identifier, id_cmp}
use Rattle.bg_types.specs.WellFormed.{IsWellFormed}
use Rattle.bg_types.specs.OperationSet.{Node, OperationSet, AllWellFormed, no_operations, with_operation, next, size}
use Rattle.bg_types.specs.declared.op.Place.TheVariants.{Root}
use Rattle.bg_types.specs.declared.op.OpView.{OpView}
use Rattle.bg_types.proofs.Interface.{Holds-no_operations, next-least}
use Rattle.pending_ops.specs.Waiting.{Waiting, nothing_waits}
use Rattle.pending_ops.specs.Releasing.{subject}
use Rattle.desk_replica.specs.Desk.{Desk, fresh}
use Rattle.desk_replica.specs.Placement.{IsSettled, IsCounted, IsDesk, IsPaid, waiting_in, whole}
use Rattle.desk_replica.specs.Reply.{IsAdmitted}
use Rattle.rga_tree.specs.Walk.{walk}
use Rattle.rga_tree.specs.Attached.{IsAttached}
use Rattle.rga_tree.specs.TextOf.{text, visible}
use Rattle.rga_tree.specs.Elements.{elements}
use Rattle.desk_replica.proofs.Whole.{some_not}
use Rattle.desk_replica.proofs.Settled.{walk-whole, elements-whole, visible-whole, text-whole, placed_attached, attached_placed, AllWellFormed-union}
use Rattle.desk_replica.proofs.Admitting.{IsContent}
use Rattle.desk_replica.proofs.UnionLaw.{idempotent}
use Rattle.desk_replica.proofs.Counters.{IsCounted-with}

-- ---- a fresh desk

size-nothing : size no_operations ≡ 0
size-nothing = let a = map.len-empty id_cmp Node in let b = set.len-empty id_cmp in omega (arith, a, b)

next-nothing : next no_operations ≡ 1
next-nothing = let le : next no_operations ≤ 1 = next-least no_operations 1 (omega arith) (λ op h. absurd (Holds-no_operations op h)) in omega (arith, le)

nothing_settled : IsSettled no_operations nothing_waits
nothing_settled = record {
  parted = record {
    apart = λ q e. map.get-empty id_cmp q;
    stands = λ q n e r. absurd (true≢false (sym r));
    waits = λ q n e r. some_not n _ (sym (map.get-empty {X = Node} id_cmp q) ∙ e);
    early = λ q e. set.contains-empty id_cmp q;
  };
  none_released = refl;
  well_formed = λ op h. absurd (Holds-no_operations op h);
}

nothing_counted : IsCounted (whole no_operations nothing_waits) 0 0
nothing_counted = subst (λ s. IsCounted s 0 0) (sym (idempotent no_operations)) (record { kept_is = sym size-nothing; limited = omega arith; next_is = next-nothing })

nothing_paid : (placings : ℕ) → IsPaid placings nothing_waits 0
nothing_paid placings = record { placed = omega (arith, map.len-empty id_cmp Node); held = omega arith }

pub IsDesk-fresh : (t : OperationSet) (placings : ℕ) (w : Waiting) (site : ℕ) → t ≡ no_operations → w ≡ nothing_waits → 0 < site → IsDesk t placings w site 0 0 0
IsDesk-fresh t placings w site et ew some =
    subst (λ x. IsDesk x placings w site 0 0 0) (sym et)
    (subst (λ y. IsDesk no_operations placings y site 0 0 0) (sym ew) (record { settled = nothing_settled; counted = nothing_counted; sited = some; paid = nothing_paid placings }))

abbrev pub desk_of : OperationSet → Waiting → ℕ → ℕ → Desk
desk_of t w site spare = record { set = whole t w; site = site; waiting = waiting_in w; spare = spare }

pub fresh_view : (t : OperationSet) (w : Waiting) (site : ℕ) → t ≡ no_operations → w ≡ nothing_waits → desk_of t w site 0 ≡ fresh site
fresh_view t w site et ew =
    let a : desk_of t w site 0 ≡ desk_of no_operations nothing_waits site 0 = (λ i. desk_of (et i) (ew i) site 0) in
    let b : desk_of no_operations nothing_waits site 0 ≡ fresh site = (λ i. record { set = idempotent no_operations i; site = site; waiting = take (size-nothing i) []; spare = 0 }) in
    a ∙ b

-- ---- one more operation

pub IsDesk-more : (t u : OperationSet) (old new : ℕ) (w v : Waiting) (site kept greatest spare left : ℕ) (op : OpView) → IsDesk t old w site kept greatest spare → IsAdmitted (whole t w) op → IsWellFormed op
    → kept < 1_000_000 → IsSettled u v → whole u v ≡ with_operation (whole t w) op → IsPaid new v left → IsDesk u new v site (kept + 1) (max greatest (subject op).counter) left
IsDesk-more t u old new w v site kept greatest spare left op d a is room settled same paid = record {
  settled = settled;
  counted = subst (λ s. IsCounted s (kept + 1) (max greatest (subject op).counter)) (sym same) (IsCounted-with (whole t w) op kept greatest d.counted a.joins a.is_new is room);
  sited = d.sited;
  paid = paid;
}

-- a desk keeps its limit
pub desk_limited : (t : OperationSet) (w : Waiting) (site spare kept greatest : ℕ) (d : Desk) → IsCounted (whole t w) kept greatest → desk_of t w site spare ≡ d → size d.set ≤ 1_000_000
desk_limited t w site spare kept greatest d counted e =
    let le : size (whole t w) ≤ 1_000_000 = omega (arith, counted.kept_is, counted.limited) in
    subst (λ (x : Desk). size x.set ≤ 1_000_000) e le

-- a desk whose parts are what they were
pub desk_same : (t u : OperationSet) (w v : Waiting) (site spare left : ℕ) (d : Desk) → u ≡ t → v ≡ w → left ≡ spare → desk_of t w site spare ≡ d → desk_of u v site left ≡ d
desk_same t u w v site spare left d et ew es e = (λ i. desk_of (et i) (ew i) site (es i)) ∙ e

-- ---- what is read off the tree

-- the tree of a desk tells its walk, its elements and what is visible
pub record Reads (t : OperationSet) (d : Desk) : Type 0 where
  pub walk_is : walk t Root ≡ walk d.set Root
  pub elements_is : elements t ≡ elements d.set
  pub visible_is : visible t ≡ visible d.set
  pub text_is : text t ≡ text d.set
  pub placed : (q : Identifier) → map.contains_key t.ins q ≡ true → IsAttached d.set.ins q
  pub attached : (q : Identifier) → IsAttached d.set.ins q → map.contains_key t.ins q ≡ true

pub reads : (t : OperationSet) (w : Waiting) (site spare : ℕ) (d : Desk) → IsContent t → IsSettled t w → desk_of t w site spare ≡ d → Reads t d
reads t w site spare d c s e = subst (Reads t) e (record {
  walk_is = sym (walk-whole t w.held c.well s.well_formed c.tree c.only s.parted);
  elements_is = sym (elements-whole t w.held c.well s.well_formed c.tree c.only s.parted);
  visible_is = sym (visible-whole t w.held c.well s.well_formed c.tree c.only s.parted);
  text_is = sym (text-whole t w.held c.well s.well_formed c.tree c.only s.parted);
  placed = placed_attached t w.held c.well s.well_formed c.tree c.only s.parted;
  attached = attached_placed t w.held c.well s.well_formed c.tree c.only s.parted;
})

pub well_formed_desk : (t : OperationSet) (w : Waiting) (site spare : ℕ) (d : Desk) → IsContent t → IsSettled t w → desk_of t w site spare ≡ d → AllWellFormed d.set
well_formed_desk t w site spare d c s e = subst (λ (x : Desk). AllWellFormed x.set) e (AllWellFormed-union t w.held c.well s.well_formed)
