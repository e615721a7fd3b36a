-- The entry that is found is one of the row's, and passes.
use Rattle.std.proofs.Common.{◌≡◌, ℕ, zero, suc, ◌+◌, ◌<◌, Bool, true, false, cond, List, [], ◌∷◌, length, Option, Some, refl, sym, ap, subst, ◌∙◌, arith}
use Rattle.std.proofs.lemmas.Option.{IfSome_then}
use Rattle.std.specs.Prelude.{find, slice_get, IfSome}
use Rattle.std.specs.List.{enumerate_from}
use Rattle.cell_grid.specs.declared.entry.Entry.{Entry}
use Rattle.bg_types.proofs.Interface.{two_cases}

module _ (passes : Entry → Bool) where
  -- what is found among entries whose numbers begin at k
  pub record Found (k : ℕ) (entries : List Entry) : Type 0 where
    pub number : ℕ
    pub entry : Entry
    pub is : find (λ (numbered : ℕ × Entry). passes numbered.1) (enumerate_from k entries) ≡ Some (k + number, entry)
    pub at : slice_get entries number ≡ Some entry
    pub here : passes entry ≡ true

  found_first : (k : ℕ) (x : Entry) (entries : List Entry) → passes x ≡ true → Found k (x ∷ entries)
  found_first k x entries first = record {
    number = 0;
    entry = x;
    is = ap (λ b. cond b (Some (k, x)) (find (λ (numbered : ℕ × Entry). passes numbered.1) (enumerate_from (k + 1) entries))) first
        ∙ ap (λ m. Some (m, x)) (let same : k ≡ k + 0 = omega arith in same);
    at = refl;
    here = first;
  }

  found_later : (k : ℕ) (x : Entry) (entries : List Entry) → passes x ≡ false → Found (k + 1) entries → Found k (x ∷ entries)
  found_later k x entries other rest = record {
    number = suc rest.number;
    entry = rest.entry;
    is = ap (λ b. cond b (Some (k, x)) (find (λ (numbered : ℕ × Entry). passes numbered.1) (enumerate_from (k + 1) entries))) other
        ∙ rest.is ∙ ap (λ i. Some (i, rest.entry)) (let same : (k + 1) + rest.number ≡ k + suc rest.number = omega arith in same);
    at = rest.at;
    here = rest.here;
  }

  found_from : (k n : ℕ) (entries : List Entry) (e : Entry) → slice_get entries n ≡ Some e → passes e ≡ true → Found k entries
  found_from k n [] e at here = absurd (cc)
  found_from k zero (x ∷ entries) e at here = let is : x ≡ e = cc in found_first k x entries (ap passes is ∙ here)
  found_from k (suc n) (x ∷ entries) e at here =
      let rest = found_from (k + 1) n entries e at here in
      two_cases (passes x) (λ first. found_first k x entries first) (λ other. found_later k x entries other rest)

  -- and so where one passes
  pub found : (n : ℕ) (entries : List Entry) (e : Entry) → slice_get entries n ≡ Some e → passes e ≡ true → Found 0 entries
  found n entries e at here = found_from 0 n entries e at here

  -- what is found has a number below theirs
  found-within : (k : ℕ) (entries : List Entry) → IfSome (find (λ (numbered : ℕ × Entry). passes numbered.1) (enumerate_from k entries)) (λ numbered. numbered.0 < k + length entries)
  found-within k [] = tt
  found-within k (x ∷ entries) =
      let P : ℕ × Entry → Type 0 = λ numbered. numbered.0 < k + length (x ∷ entries) in
      let rest = find (λ (numbered : ℕ × Entry). passes numbered.1) (enumerate_from (k + 1) entries) in
      let later = IfSome_then rest {Q = P} (found-within (k + 1) entries) (λ numbered below. omega (arith, below)) in
      elim (passes x) as (λ b. IfSome (cond b (Some (k, x)) rest) P) [ true ↦ omega arith | false ↦ later ]

  pub number-within : (entries : List Entry) (r : Option (ℕ × Entry)) → r ≡ find (λ (numbered : ℕ × Entry). passes numbered.1) (enumerate_from 0 entries)
      → IfSome r (λ numbered. numbered.0 < length entries)
  number-within entries r is =
      IfSome_then r {Q = λ numbered. numbered.0 < length entries}
      (subst (λ o. IfSome o (λ (numbered : ℕ × Entry). numbered.0 < 0 + length entries)) (sym is) (found-within 0 entries)) (λ numbered below. omega (arith, below))
