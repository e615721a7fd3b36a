-- All operations of a desk: those of its elements, and those that wait.
use Rattle.std.proofs.Common.{◌≡◌, ℕ, Bool, true, false, List, get_or, refl, subst}
use Rattle.std.specs.Prelude.{All, Contains}
use Rattle.std.proofs.lemmas.List.Elements.{All-append, Contains-append_left, Contains-append_right}
use Rattle.bg_types.specs.OperationSet.{OperationSet, Holds}
use Rattle.bg_types.specs.declared.op.OpView.{OpView}
use Rattle.rga_tree.specs.Elements.{elements}
use Rattle.rga_tree.specs.Parts.{IsPartOf}
use Rattle.pending_ops.specs.Waiting.{Waiting}
use Rattle.desk_replica.specs.Desk.{Desk}
use Rattle.desk_replica.specs.Listed.{listed, insertions_in, deletions_in, operations_in}
use Rattle.desk_replica.specs.Placement.{IsSettled, waiting_in}
use Rattle.desk_replica.specs.Merging.{is_deletion}
use Rattle.desk_replica.proofs.Admitting.{IsContent}
use Rattle.desk_replica.proofs.Desks.{desk_of}
use Rattle.desk_replica.proofs.Growing.{IsListedIn}
use Rattle.desk_replica.proofs.Listed.{listed_is}

module _ (t : OperationSet) (w : Waiting) (site spare : ℕ) (d : Desk) (c : IsContent t) (s : IsSettled t w) (view : desk_of t w site spare ≡ d) where
  pub waiting_listed : IsListedIn (waiting_in w) (listed d)
  waiting_listed op h = subst (λ l. Contains l op) (listed_is t w site spare d c s view) (Contains-append_right (operations_in (elements t)) (waiting_in w) op h)

  pub elements_listed : IsListedIn (operations_in (elements t)) (listed d)
  elements_listed op h = subst (λ l. Contains l op) (listed_is t w site spare d c s view) (Contains-append_left (operations_in (elements t)) (waiting_in w) op h)

  pub deletions_listed : IsListedIn (deletions_in (elements t)) (listed d)
  deletions_listed op h = elements_listed op (Contains-append_right (insertions_in (elements t)) (deletions_in (elements t)) op h)

  pub all_told : (u : OperationSet) → All (Holds u) (operations_in (elements t)) → All (Holds u) (waiting_in w) → All (Holds u) (listed d)
  all_told u first second = subst (All (Holds u)) (listed_is t w site spare d c s view) (All-append (Holds u) (operations_in (elements t)) (waiting_in w) first second)

-- deletions that were taken first, and insertions
pub both_kinds : (u v : OperationSet) (ops : List OpView) → IsPartOf u v → All (λ op. is_deletion op ≡ true → Holds u op) ops → All (λ op. is_deletion op ≡ false → Holds v op) ops → All (Holds v) ops
both_kinds u v ops part deletions insertions = λ k d within. by (get_or ops k d) (is_deletion (get_or ops k d)) refl (deletions k d within) (insertions k d within)
  where
    by : (op : OpView) (b : Bool) → is_deletion op ≡ b → (is_deletion op ≡ true → Holds u op) → (is_deletion op ≡ false → Holds v op) → Holds v op
    by op true is first second = part op (first is)
    by op false is first second = second is

pub all_still : (u v : OperationSet) (ops : List OpView) → IsPartOf u v → All (Holds u) ops → All (Holds v) ops
all_still u v ops part held = λ k d within. part (get_or ops k d) (held k d within)
