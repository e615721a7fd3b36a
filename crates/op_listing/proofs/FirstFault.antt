-- Of lines, either none has a fault or one is the first with a fault; and reading lines one after the other.
use Rattle.std.proofs.Common.{◌≡◌, ℕ, suc, ◌+◌, List, [], ◌∷◌, ◌++◌, ◌⊎◌, inl, inr, length, Option, Some, None, refl, sym, ap, subst, ◌∙◌, append_assoc, arith}
use Rattle.std.specs.Str.Lines.{lines}
use Rattle.std.proofs.lemmas.List.{append-nil, length-append}
use Rattle.op_listing.specs.FirstFault.{AreFaultless, IsFirstFault, AreRead}

-- ---- one of the two

fault_or_none : {F : Type 0} (o : Option F) → ((fault : F) × (o ≡ Some fault)) ⊎ (o ≡ None)
fault_or_none (Some fault) = inl (fault, refl)
fault_or_none None = inr refl

pub either : {F : Type 0} (fault_of : List ℕ → Option F) (all : List (List ℕ)) → AreFaultless fault_of all ⊎ ((n : ℕ) × (fault : F) × IsFirstFault fault_of all n fault)
either fault_of [] = inl tt
either fault_of (l ∷ all) = elim (fault_or_none (fault_of l)) [
  | inl shown ↦ inr (1, shown.0, record { before = []; line = l; after = all; in_order = refl; number = omega arith; faultless = tt; shown = shown.1 })
  | inr none ↦ elim (either fault_of all) [
    | inl rest ↦ inl (none, rest)
    | inr (n, fault, h) ↦ inr (
      n + 1,
      fault,
      record {
        before = l ∷ h.before;
        line = h.line;
        after = h.after;
        in_order = ap (λ (ls : List (List ℕ)). l ∷ ls) h.in_order;
        number = let number = h.number in omega (arith, number);
        faultless = (none, h.faultless);
        shown = h.shown;
      },
    )
  ]
]

-- ---- never both

never_in : {F : Type 0} (fault_of : List ℕ → Option F) (before after : List (List ℕ)) (line : List ℕ) (fault : F) → AreFaultless fault_of (before ++ line ∷ after) → fault_of line ≡ Some fault → ⊥
never_in fault_of [] after line fault all shown = let none = all.0 in cc
never_in fault_of (x ∷ before) after line fault all shown = never_in fault_of before after line fault all.1 shown

pub never_both : {F : Type 0} (fault_of : List ℕ → Option F) (all : List (List ℕ)) (n : ℕ) (fault : F) → AreFaultless fault_of all → IsFirstFault fault_of all n fault → ⊥
never_both fault_of all n fault a h = never_in fault_of h.before h.after h.line fault (subst (AreFaultless fault_of) h.in_order a) h.shown

-- ---- never two

first_of_two : {F : Type 0} (fault_of : List ℕ → Option F) (before before' after after' : List (List ℕ)) (line line' : List ℕ) (fault fault' : F) → before ++ line ∷ after ≡ before' ++ line' ∷ after'
    → AreFaultless fault_of before → AreFaultless fault_of before' → fault_of line ≡ Some fault → fault_of line' ≡ Some fault' → (length before ≡ length before') × (fault ≡ fault')
first_of_two fault_of [] [] after after' line line' fault fault' e a b p q = let same : line ≡ line' = cc in let shown = ap fault_of same in (refl, cc)
first_of_two fault_of [] (x ∷ before') after after' line line' fault fault' e a b p q = let same : line ≡ x = cc in let shown = ap fault_of same in let none = b.0 in absurd cc
first_of_two fault_of (x ∷ before) [] after after' line line' fault fault' e a b p q = let same : x ≡ line' = cc in let shown = ap fault_of same in let none = a.0 in absurd cc
first_of_two fault_of (x ∷ before) (y ∷ before') after after' line line' fault fault' e a b p q =
    let rest : before ++ line ∷ after ≡ before' ++ line' ∷ after' = cc in
    let one = first_of_two fault_of before before' after after' line line' fault fault' rest a.1 b.1 p q in
    (ap suc one.0, one.1)

pub one_fault : {F : Type 0} (fault_of : List ℕ → Option F) (all : List (List ℕ)) (m n : ℕ) (f g : F) → IsFirstFault fault_of all m f → IsFirstFault fault_of all n g → (m ≡ n) × (f ≡ g)
one_fault fault_of all m n f g a b =
    let one = first_of_two fault_of a.before b.before a.after b.after a.line b.line f g (sym a.in_order ∙ b.in_order) a.faultless b.faultless a.shown b.shown in
    (a.number ∙ ap (λ (k : ℕ). k + 1) one.0 ∙ sym b.number, one.1)

-- ---- reading the lines one after the other

pub begin : {F : Type 0} (fault_of : List ℕ → Option F) (text : List ℕ) → AreRead fault_of text text 0 []
begin fault_of text = record { in_order = refl; count = refl; faultless = tt }

faultless-push : {F : Type 0} (fault_of : List ℕ → Option F) (xs : List (List ℕ)) (x : List ℕ) → AreFaultless fault_of xs → fault_of x ≡ None → AreFaultless fault_of (xs ++ x ∷ [])
faultless-push fault_of [] x h p = (p, tt)
faultless-push fault_of (y ∷ xs) x h p = (h.0, faultless-push fault_of xs x h.1 p)

pub more : {F : Type 0} (fault_of : List ℕ → Option F) (text rest after line : List ℕ) (number : ℕ) (done : List (List ℕ)) → AreRead fault_of text rest number done → lines rest ≡ line ∷ lines after
    → fault_of line ≡ None → AreRead fault_of text after (number + 1) (done ++ line ∷ [])
more fault_of text rest after line number done h first faultless = record {
  in_order = h.in_order ∙ ap (λ (ls : List (List ℕ)). done ++ ls) first ∙ sym (append_assoc done (line ∷ []) (lines after));
  count = let grown = length-append done (line ∷ []) in let so_far = h.count in omega (arith, grown, so_far);
  faultless = faultless-push fault_of done line h.faultless faultless;
}

pub faulty : {F : Type 0} (fault_of : List ℕ → Option F) (text rest after line : List ℕ) (number : ℕ) (done : List (List ℕ)) (fault : F) → AreRead fault_of text rest number done
    → lines rest ≡ line ∷ lines after → fault_of line ≡ Some fault → IsFirstFault fault_of (lines text) (number + 1) fault
faulty fault_of text rest after line number done fault h first shown = record {
  before = done;
  line = line;
  after = lines after;
  in_order = h.in_order ∙ ap (λ (ls : List (List ℕ)). done ++ ls) first;
  number = ap (λ (n : ℕ). n + 1) h.count;
  faultless = h.faultless;
  shown = shown;
}

pub end : {F : Type 0} (fault_of : List ℕ → Option F) (text rest : List ℕ) (number : ℕ) (done : List (List ℕ)) → AreRead fault_of text rest number done → length rest ≡ 0 → done ≡ lines text
end fault_of text [] number done h none = sym (h.in_order ∙ append-nil done)
end fault_of text (b ∷ rest) number done h none = absurd (omega (arith, none))
