-- Operations that are taken and told one after the other.
use Rattle.std.proofs.Common.{◌≡◌, ◌⊎◌, inl, inr, ◌++◌, ◌+◌, ◌-◌, ◌<◌, ◌≤◌, ℕ, Bool, true, false, List, [], ◌∷◌, Some, length, take, drop, get_or, slice_get, refl, sym, ap, ◌∙◌, subst, arith, append_assoc, append-nil}
use Rattle.std.proofs.Math.Seq.{drop-append_seam}
use Rattle.std.proofs.lemmas.Bool.{cases_lt}
use Rattle.std.proofs.lemmas.List.{length-take, take_more, take-append-le}
use Rattle.std.proofs.lemmas.Option.{get_or_from_slice_get}
use Rattle.bg_types.specs.OperationSet.{OperationSet, with_operation, size}
use Rattle.bg_types.specs.Edit.{IsEdit}
use Rattle.bg_types.specs.declared.change.Change.{Change}
use Rattle.bg_types.specs.declared.op.OpView.{OpView}
use Rattle.rga_tree.specs.TextOf.{text}
use Rattle.desk_replica.specs.Desk.{Desk}
use Rattle.desk_replica.specs.Merging.{with_operations}
use Rattle.desk_replica.specs.Reply.{IsRefusal}
use Rattle.desk_replica.specs.Telling.{IsTold, changes_of, is_shown}
use Rattle.desk_replica.specs.declared.answer.TakeFault.{TakeFault}
use Rattle.desk_replica.specs.Taking.{AreAccepted, AreTaken, AreTold}
use Rattle.live_document.proofs.Followed.{told-behind}

with-append_one : (s : OperationSet) (ops : List OpView) (op : OpView) → with_operations s (ops ++ op ∷ []) ≡ with_operation (with_operations s ops) op
with-append_one s [] op = refl
with-append_one s (x ∷ ops) op = with-append_one (with_operation s x) ops op

-- one more operation of the list
first_and : (ops : List OpView) (n : ℕ) (op : OpView) → n < length ops → op ≡ get_or ops n op → take (n + 1) ops ≡ take n ops ++ op ∷ []
first_and ops n op within is = take_more ops n op within ∙ ap (λ x. take n ops ++ x ∷ []) (sym is)

accepted_at : (s u : OperationSet) (ops : List OpView) (n : ℕ) (op : OpView) → op ≡ get_or ops n op → u ≡ with_operations s (take n ops) → ((fault : TakeFault) → ¬ (IsRefusal u op fault))
    → AreAccepted s ops n → (k : ℕ) (q : OpView) (fault : TakeFault) → k < n + 1 → (k < n) ⊎ (n ≤ k) → slice_get ops k ≡ Some q → ¬ (IsRefusal (with_operations s (take k ops)) q fault)
accepted_at s u ops n op is taken accepted before k q fault within (inl less) at = before k q fault less at
accepted_at s u ops n op is taken accepted before k q fault within (inr last) at =
    let same : k ≡ n = omega (arith, within, last) in
    let set_is : with_operations s (take k ops) ≡ u = ap (λ m. with_operations s (take m ops)) same ∙ sym taken in
    let op_is : q ≡ op = sym (is ∙ ap (λ m. get_or ops m op) (sym same) ∙ get_or_from_slice_get ops k q op at) in
    λ refused. accepted fault (subst (λ (t : OperationSet). IsRefusal t op fault) set_is (subst (λ (o : OpView). IsRefusal (with_operations s (take k ops)) o fault) op_is refused))

-- a desk has taken one more operation of the list
pub taken_next : (old mid new : Desk) (ops : List OpView) (n : ℕ) (op : OpView) → n < length ops → op ≡ get_or ops n op → AreTaken old ops n mid
    → new.set ≡ with_operation mid.set op → ((fault : TakeFault) → ¬ (IsRefusal mid.set op fault)) → new.site ≡ mid.site → size mid.set + mid.spare ≤ size new.set + new.spare
    → AreTaken old ops (n + 1) new
taken_next old mid new ops n op within is taken set accepted site spare = record {
  within = omega (arith, within);
  set = set ∙ ap (λ s. with_operation s op) taken.set ∙ sym (with-append_one old.set (take n ops) op) ∙ ap (with_operations old.set) (sym (first_and ops n op within is));
  accepted = λ k q fault less at. accepted_at old.set mid.set ops n op is taken.set accepted taken.accepted k q fault less (cases_lt k n) at;
  site = site ∙ taken.site;
  spare = omega (arith, spare, taken.spare);
  none = λ no. absurd (omega (arith, no));
}

-- a desk that has taken nothing yet
pub none_taken : (desk : Desk) (ops : List OpView) → AreTaken desk ops 0 desk
none_taken desk ops = record { within = omega arith; set = refl; accepted = λ k op fault less at. absurd (omega (arith, less)); site = refl; spare = omega arith; none = λ _. refl }

told_more : (s : OperationSet) (ops : List OpView) (op : OpView) (old mid new : List Change) → AreTold s ops old mid
    → IsTold (with_operations s ops) (with_operation (with_operations s ops) op) mid new → AreTold s (ops ++ op ∷ []) old new
told_more s [] op old mid new same more = (new, subst (λ (m : List Change). IsTold s (with_operation s op) m new) same more, refl)
told_more s (x ∷ ops) op old mid new told more = (told.0, told.1, told_more (with_operation s x) ops op told.0 mid new told.2 more)

-- what is told of one more operation of the list
pub told_next : (s u t : OperationSet) (ops : List OpView) (n : ℕ) (op : OpView) (old mid new : List Change) → n < length ops → op ≡ get_or ops n op
    → u ≡ with_operations s (take n ops) → t ≡ with_operation u op → AreTold s (take n ops) old mid → IsTold u t mid new → AreTold s (take (n + 1) ops) old new
told_next s u t ops n op old mid new within is taken more before told =
    let step : IsTold u (with_operation u op) mid new = subst (λ (v : OperationSet). IsTold u v mid new) more told in
    let next = subst (λ (v : OperationSet). IsTold v (with_operation v op) mid new) taken step in
    subst (λ (list : List OpView). AreTold s list old new) (sym (first_and ops n op within is)) (told_more s (take n ops) op old mid new before next)

-- older changes stand in front of what is told
pub reaches_past : (old new : List Change) → take (length old) new ≡ old → length old ≤ length new
reaches_past old new begins = omega (arith, length-take (length old) new, ap (λ (c : List Change). length c) begins)

pub still_behind : (told : Bool) (s t : OperationSet) (old mid new : List Change) → (told ≡ true → IsTold s t mid new) → (told ≡ false → new ≡ mid)
    → take (length old) mid ≡ old → take (length old) new ≡ old
still_behind true s t old mid new more same begins =
    let told = more refl in
    ap (take (length old)) told.appended ∙ take-append-le (length old) mid (changes_of t (is_shown s) told.steps) (reaches_past old mid begins) ∙ begins
still_behind false s t old mid new more same begins = ap (take (length old)) (same refl) ∙ begins

-- changes that are told of one operation after the other lead from text to text
abbrev InTurn : Type 0
InTurn = (start : List ℕ) (s t : OperationSet) (old new : List Change) → IsEdit start old (text s) → IsTold s t old new → IsEdit start new (text t)

edit_behind : InTurn → (start : List ℕ) (s : OperationSet) (ops : List OpView) (old mid new : List Change) → IsEdit start mid (text s) → AreTold s ops (old ++ mid) new
    → IsEdit start (drop (length old) new) (text (with_operations s ops))
edit_behind in_turn start s [] old mid new edit same =
    subst (λ (changes : List Change). IsEdit start changes (text s)) (sym (ap (drop (length old)) same ∙ drop-append_seam old mid)) edit
edit_behind in_turn start s (op ∷ ops) old mid new edit told =
    let t = with_operation s op in
    let more : List Change = changes_of t (is_shown s) told.1.steps in
    let is : told.0 ≡ old ++ (mid ++ more) = told.1.appended ∙ append_assoc old mid more in
    let one : IsTold s t mid (mid ++ more) = record { steps = told.1.steps; are_steps = told.1.are_steps; appended = refl } in
    edit_behind in_turn start t ops old (mid ++ more) new (in_turn start s t mid (mid ++ more) edit one) (subst (λ (changes : List Change). AreTold t ops changes new) is told.2)

pub edit_in_turn : InTurn → (old new : Desk) (ops : List OpView) (before after : List Change) → new.set ≡ with_operations old.set ops → AreTold old.set ops before after
    → IsEdit (text old.set) (drop (length before) after) (text new.set)
edit_in_turn in_turn old new ops before after is told =
    let whole = subst (λ (changes : List Change). AreTold old.set ops changes after) (sym (append-nil before)) told in
    subst (λ (s : OperationSet). IsEdit (text old.set) (drop (length before) after) (text s)) (sym is)
    (edit_behind in_turn (text old.set) old.set ops before [] after refl whole)

-- the same of a slice of the list
pub edit_of_slice : InTurn → (old new : Desk) (ops : List OpView) (before after all : List Change) (n : ℕ) → n ≡ length before → all ≡ after
    → new.set ≡ with_operations old.set ops → AreTold old.set ops before after → IsEdit (text old.set) (take (length all - n) (drop n all)) (text new.set)
edit_of_slice in_turn old new ops before after all n count same is told =
    subst (λ (changes : List Change). IsEdit (text old.set) changes (text new.set)) (sym (told-behind before after all n count same))
    (edit_in_turn in_turn old new ops before after is told)
