-- Characters that are erased: one is a stretch of one, and of others nothing is put in their place.
use Rattle.std.proofs.Common.{◌≡◌, inl, inr, ◌≤◌, ◌<◌, ◌+◌, ◌-◌, ◌++◌, ℕ, suc, List, [], ◌∷◌, Some, length, slice_get, take, drop, sym, ap, ◌∙◌, subst, arith}
use Rattle.std.specs.Prelude.{map as each}
use Rattle.std.proofs.lemmas.List.{append-nil, drop_more, length-map}
use Rattle.std.proofs.lemmas.Option.{get_or_from_slice_get, slice_get_within}
use Rattle.bg_types.specs.Identifier.{Identifier}
use Rattle.bg_types.specs.OperationSet.{OperationSet, size}
use Rattle.bg_types.specs.declared.op.OpView.{OpView}
use Rattle.bg_types.specs.declared.op.OpView.TheVariants.{Erase}
use Rattle.rga_tree.specs.TextOf.{text, visible, visible_ids}
use Rattle.op_codec.specs.Spelling.{spelling}
use Rattle.desk_replica.specs.Desk.{Desk}
use Rattle.desk_replica.specs.Replacement.{deletions, replacement, IsReplaceRefusal}
use Rattle.desk_replica.specs.Merging.{with_operations}
use Rattle.desk_replica.specs.Typing.{IsErasedAt}
use Rattle.c_answers.specs.Copying.{IsCopied}
use Rattle.desk_replica.specs.declared.answer.TypeFault.{TypeFault}
use Rattle.desk_replica.specs.declared.answer.TypeFault.TheVariants.{CounterSpent, Full, Memory}
use Rattle.c_desks.specs.Desks.{IsErased, IsReplaced, KeepsSpare, IsRefusedErasing, IsRefusedExchange}

taken_one : (xs : List Identifier) (k : ℕ) (x : Identifier) → slice_get xs k ≡ Some x → take 1 (drop k xs) ≡ x ∷ []
taken_one xs k x at = ap (take 1) (drop_more xs k x (slice_get_within xs k x at) ∙ ap (λ y. y ∷ drop (k + 1) xs) (get_or_from_slice_get xs k x x at))

-- the message of a deletion
pub erased_most : (s t : OperationSet) (place : ℕ) (op : OpView) → IsErasedAt s t place op → length (spelling (op ∷ [])) ≤ 14
erased_most s t place op erased = omega (arith, ap (λ (o : OpView). length (spelling (o ∷ []))) erased.op_is)

pub erased_one : (old new : Desk) (place : ℕ) (op : OpView) (before after : List ℕ) (told : ℕ)
    → IsErasedAt old.set new.set place op → size old.set < 1_000_000 → new.site ≡ old.site → KeepsSpare old new
    → IsCopied (spelling (op ∷ [])) before after told 0 → IsErased old place (place + 1) new before after told
erased_one old new place op before after told erased room site spare copied =
    let one : place + 1 - place ≡ 1 = omega arith in
    let law : deletions old.set place 1 ≡ op ∷ [] = ap (each Erase) (taken_one (visible_ids old.set) place erased.target erased.at) ∙ ap (λ (o : OpView). o ∷ []) (sym erased.op_is) in
    let made : deletions old.set place (place + 1 - place) ≡ op ∷ [] = ap (deletions old.set place) one ∙ law in
    let next : suc place ≡ place + 1 = omega arith in
    let there = slice_get_within (visible_ids old.set) place erased.target erased.at in
    record {
      order = omega arith;
      within = omega (arith, there, length-map (visible old.set) (λ e. e.0));
      set = erased.set_is ∙ ap (with_operations old.set) (sym made);
      erased = erased.text_is ∙ ap (λ n. take place (text old.set) ++ drop n (text old.set)) next;
      accepted = omega (arith, one, room);
      site = site;
      spare = spare;
      message = subst (λ (ops : List OpView). IsCopied (spelling ops) before after told 0) (sym made) copied;
    }

pub erased_stretch : (old new : Desk) (from to : ℕ) (before after : List ℕ) (told : ℕ) → IsReplaced old from to [] new before after told → IsErased old from to new before after told
erased_stretch old new from to before after told r =
    let gone = append-nil (deletions old.set from (to - from)) in
    let room : 1_000_000 < size old.set + (to - from) → ⊥ = λ big. r.accepted Full (omega arith, omega (arith, big)) in
    record {
      order = r.order;
      within = r.within;
      set = r.set ∙ ap (with_operations old.set) gone;
      erased = r.replaced;
      accepted = omega (arith, room);
      site = r.site;
      spare = r.spare;
      message = subst (λ (ops : List OpView). IsCopied (spelling ops) before after told 0) gone r.message;
    }

erasing_accepted : (desk : Desk) (from to : ℕ) → size desk.set + (to - from) ≤ 1_000_000 → (fault : TypeFault) → ¬ (IsReplaceRefusal desk.set (to - from) 0 fault)
erasing_accepted desk from to room CounterSpent refused = omega (arith, refused)
erasing_accepted desk from to room Full refused = omega (arith, room, refused.1)
erasing_accepted desk from to room Memory refused = refused

pub not_erased : (desk : Desk) (from to room told answer : ℕ) → IsRefusedExchange desk from to 0 room told answer → IsRefusedErasing desk from to room told answer
not_erased desk from to room told answer (inl memory) = inl (memory.0, (λ one. absurd (omega (arith, (memory.1 (omega (arith, one))).0))), memory.2)
not_erased desk from to room told answer (inr (inl place)) = inr (inl place)
not_erased desk from to room told answer (inr (inr (inl short))) = inr (inr (inl short))
not_erased desk from to room told answer (inr (inr (inr (inl spent)))) = absurd (omega (arith, spent.1))
not_erased desk from to room told answer (inr (inr (inr (inr full)))) = inr (inr (inr (full.0, omega (arith, full.1))))

-- nothing is put in the place of what is erased
pub erased_exchange : (old new : Desk) (from to : ℕ) (before after : List ℕ) (told : ℕ) → IsErased old from to new before after told → IsReplaced old from to [] new before after told
erased_exchange old new from to before after told e =
    let made : replacement old.set old.site from (to - from) [] ≡ deletions old.set from (to - from) = append-nil (deletions old.set from (to - from)) in
    record {
      order = e.order;
      within = e.within;
      set = e.set ∙ ap (with_operations old.set) (sym made);
      replaced = e.erased;
      accepted = erasing_accepted old from to e.accepted;
      site = e.site;
      spare = e.spare;
      message = subst (λ (ops : List OpView). IsCopied (spelling ops) before after told 0) (sym made) e.message;
    }
