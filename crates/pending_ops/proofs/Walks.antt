-- Walking a chain of links.
use Rattle.std.proofs.Common.{◌≡◌, ◌≤◌, ◌+◌, ◌++◌, ℕ, List, [], ◌∷◌, length, Option, None, Some, sym, ap, subst, ◌∙◌, append_assoc, arith, length-append}
use Rattle.std.proofs.lemmas.List.{append-nil}
use Rattle.bg_types.specs.Identifier.{Identifier}
use Rattle.pending_ops.specs.declared.chains.Slot.{Slot}
use Rattle.pending_ops.specs.Chains.{Links}

module _ (slot : Identifier → Option Slot) where
  -- two walks from one start are one
  pub Links-unique : (start : Option Identifier) (xs ys : List Identifier) → Links slot start xs → Links slot start ys → xs ≡ ys
  Links-unique start [] [] h k = cc
  Links-unique start [] (y ∷ ys) h k = let e : None ≡ Some y = sym h ∙ k.0 in cc
  Links-unique start (x ∷ xs) [] h k = let e : None ≡ Some x = sym k ∙ h.0 in cc
  Links-unique start (x ∷ xs) (y ∷ ys) h k =
      let e : Some x ≡ Some y = sym h.0 ∙ k.0 in
      let same : x ≡ y = cc in
      let f : Some h.1.0 ≡ Some k.1.0 = sym h.1.1.0 ∙ ap slot same ∙ k.1.1.0 in
      let slots : h.1.0 ≡ k.1.0 = cc in
      let rest = Links-unique k.1.0.next xs ys (subst (λ (s : Slot). Links slot s.next xs) slots h.1.1.1) k.1.1.1 in
      λ i. same i ∷ rest i

  -- the walk has appended `done`, and has `rest` before it
  pub record IsWalking (start cursor : Option Identifier) (old new : List Identifier) (capacity : ℕ) : Type 0 where
    pub done : List Identifier
    pub rest : List Identifier
    pub whole : Links slot start (done ++ rest)
    pub left : Links slot cursor rest
    pub items : new ≡ old ++ done
    pub room : length new + length rest ≤ capacity

  pub record LeadsOn (id : Identifier) (xs : List Identifier) : Type 0 where
    pub at : Slot
    pub found : slot id ≡ Some at
    pub more : List Identifier
    pub all : xs ≡ id ∷ more
    pub left : Links slot at.next more

  pub leads_on : (id : Identifier) (xs : List Identifier) → Links slot (Some id) xs → LeadsOn id xs
  leads_on id [] h = let e : Some id ≡ None = h in cc
  leads_on id (x ∷ xs) h =
      let e : Some id ≡ Some x = h.0 in
      let same : id ≡ x = cc in
      record { at = h.1.0; found = ap slot same ∙ h.1.1.0; more = xs; all = ap (λ y. y ∷ xs) (sym same); left = h.1.1.1 }

  pub walking_on : (start cursor : Option Identifier) (id : Identifier) (old new newer : List Identifier) (capacity : ℕ) (s : Slot)
      → IsWalking start cursor old new capacity → cursor ≡ Some id → newer ≡ new ++ id ∷ [] → slot id ≡ Some s → IsWalking start s.next old newer capacity
  walking_on start cursor id old new newer capacity s w is pushed found =
      let n = leads_on id w.rest (subst (λ c. Links slot c w.rest) is w.left) in
      let same : n.at ≡ s = let e : Some n.at ≡ Some s = sym n.found ∙ found in cc in
      let e : length w.rest ≡ length (id ∷ n.more) = ap length n.all in
      let f : length newer ≡ length new + 1 = ap length pushed ∙ length-append new (id ∷ []) in
      let r = w.room in
      record {
        done = w.done ++ id ∷ [];
        rest = n.more;
        whole = subst (λ xs. Links slot start xs) (ap (λ xs. w.done ++ xs) n.all ∙ sym (append_assoc w.done (id ∷ []) n.more)) w.whole;
        left = subst (λ (t : Slot). Links slot t.next n.more) same n.left;
        items = pushed ∙ ap (λ xs. xs ++ id ∷ []) w.items ∙ append_assoc old w.done (id ∷ []);
        room = omega arith;
      }

  pub walking_nowhere : (start cursor : Option Identifier) (id : Identifier) (old new : List Identifier) (capacity : ℕ)
      → IsWalking start cursor old new capacity → cursor ≡ Some id → slot id ≡ None → ⊥
  walking_nowhere start cursor id old new capacity w is gone =
      let n = leads_on id w.rest (subst (λ c. Links slot c w.rest) is w.left) in
      let e : Some n.at ≡ None = sym n.found ∙ gone in
      cc

  all_of : (start : Option Identifier) (old new done rest : List Identifier) → Links slot start (done ++ rest) → new ≡ old ++ done → Links slot None rest
      → (xs : List Identifier) × (Links slot start xs × (new ≡ old ++ xs))
  all_of start old new done [] whole items left = (done ++ [], (whole, items ∙ ap (λ xs. old ++ xs) (sym (append-nil done))))
  all_of start old new done (x ∷ rest) whole items left = let e : None ≡ Some x = left.0 in cc

  pub walked : (start cursor : Option Identifier) (old new : List Identifier) (capacity : ℕ)
      → IsWalking start cursor old new capacity → cursor ≡ None → (xs : List Identifier) × (Links slot start xs × (new ≡ old ++ xs))
  walked start cursor old new capacity w end = all_of start old new w.done w.rest w.whole w.items (subst (λ c. Links slot c w.rest) end w.left)
