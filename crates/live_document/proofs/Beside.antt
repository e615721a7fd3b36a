-- Rows that are kept of paragraphs.
use Rattle.std.proofs.Common.{◌≡◌, ℕ, zero, suc, Bool, true, false, Option, Some, None, List, [], ◌∷◌, ◌++◌, ◌+◌, arith, get_or, set, map, take, drop, refl, sym, ap, ap₂, subst, ◌∙◌}
use Rattle.std.proofs.lemmas.List.{map-set, set-get_or}
use Rattle.std.proofs.lemmas.List.Elements.{All-nil, All-cons, All-head, All-tail, All-append, All-take, All-drop}
use Rattle.std.proofs.lemmas.List.Sums.{sum_by-cons}
use Rattle.std.proofs.lemmas.Option.{same_Some}
use Rattle.std.specs.List.{All}
use Rattle.std.specs.Option.{option_map_or}
use Rattle.std.specs.Prelude.{slice_get, is_some, IfSome}
use Rattle.bg_types.specs.declared.class.Base.{Base}
use Rattle.unicode_tables.specs.Tables.{TableValues}
use Rattle.text_buffer.specs.Buffers.{KeptParagraph, paragraphs_in, kept_in, forgotten, IsSplit}
use Rattle.text_buffer.specs.Edits.{anew}
use Rattle.live_document.specs.Keeping.{Rows, KeptText, rows_of_text, IsLaid, IsKeptAt, rows_beside, rows_at, rows_weight, weight_held, flags, is_kept}

-- what is kept of a paragraph tells its rows and its flag
pub rows_at-kept : (kept : KeptText) (n : ℕ) (o : Option Rows) → slice_get (kept_in kept) n ≡ Some o → rows_at kept n ≡ option_map_or (λ (rows : Rows). rows) o []
rows_at-kept [] n o h = cc
rows_at-kept (p ∷ kept) zero o h = ap (λ (k : Option Rows). option_map_or (λ (rows : Rows). rows) k []) (same_Some p.kept o h)
rows_at-kept (p ∷ kept) (suc n) o h = rows_at-kept kept n o h

pub flag-kept : (kept : KeptText) (n : ℕ) (o : Option Rows) → slice_get (kept_in kept) n ≡ Some o → is_kept (flags kept) n ≡ is_some o
flag-kept [] n o h = cc
flag-kept (p ∷ kept) zero o h = ap (λ (k : Option Rows). is_some k) (same_Some p.kept o h)
flag-kept (p ∷ kept) (suc n) o h = flag-kept kept n o h

pub flags-kept_in : (kept : KeptText) → flags kept ≡ map (λ (o : Option Rows). is_some o) (kept_in kept)
flags-kept_in [] = refl
flags-kept_in (p ∷ kept) = ap (λ later. is_some p.kept ∷ later) (flags-kept_in kept)

-- one more is kept
pub flags-set : (kept new : KeptText) (n : ℕ) (rows : Rows) → kept_in new ≡ set (kept_in kept) n (Some rows) → flags new ≡ set (flags kept) n true
flags-set kept new n rows h =
    flags-kept_in new ∙ ap (map (λ (o : Option Rows). is_some o)) h ∙ map-set (λ (o : Option Rows). is_some o) (kept_in kept) n (Some rows)
    ∙ ap (λ l. set l n true) (sym (flags-kept_in kept))

-- or was kept already
pub flags-already : (marks : List Bool) (n : ℕ) → is_kept marks n ≡ true → marks ≡ set marks n true
flags-already marks n h = sym (ap (λ b. set marks n b) (sym h) ∙ set-get_or marks n false)

pub kept-same : (kept new : KeptText) → paragraphs_in new ≡ paragraphs_in kept → kept_in new ≡ kept_in kept → new ≡ kept
kept-same [] [] e f = refl
kept-same [] (q ∷ new) e f = cc
kept-same (p ∷ kept) [] e f = cc
kept-same (p ∷ kept) (q ∷ new) e f =
    let make : List ℕ → Option Rows → KeptParagraph Rows = λ points k. record { points = points; kept = k } in
    ap₂ (λ (first : KeptParagraph Rows) later. first ∷ later)
    (ap₂ make (ap (λ l. get_or l 0 []) e) (ap (λ l. get_or l 0 None) f))
    (kept-same kept new (ap (drop 1) e) (ap (drop 1) f))

-- nothing is kept of any of them
pub bare-none : (kept new : KeptText) → paragraphs_in new ≡ paragraphs_in kept → kept_in new ≡ forgotten (kept_in kept) → new ≡ map anew (paragraphs_in kept)
bare-none [] [] e f = refl
bare-none [] (q ∷ new) e f = cc
bare-none (p ∷ kept) [] e f = cc
bare-none (p ∷ kept) (q ∷ new) e f =
    let make : List ℕ → Option Rows → KeptParagraph Rows = λ points k. record { points = points; kept = k } in
    ap₂ (λ (first : KeptParagraph Rows) later. first ∷ later)
    (ap₂ make (ap (λ l. get_or l 0 []) e) (ap (λ l. get_or l 0 None) f))
    (bare-none kept new (ap (drop 1) e) (ap (drop 1) f))

module _ (tables : TableValues) (width : ℕ) (base : Base) where
  laid-beside : (o : Option Rows) (points : List ℕ) → IfSome o (λ (rows : Rows). rows ≡ rows_of_text tables width base points) → is_some o ≡ true
      → option_map_or (λ (rows : Rows). rows) o [] ≡ rows_of_text tables width base points
  laid-beside None points laid h = cc
  laid-beside (Some rows) points laid h = laid

  -- rows that are kept are the paragraph's
  pub rows_at-laid : (kept : KeptText) → All (IsLaid tables width base) kept → (n : ℕ) → is_kept (flags kept) n ≡ true
      → rows_at kept n ≡ rows_of_text tables width base (get_or (paragraphs_in kept) n [])
  rows_at-laid [] all n h = cc
  rows_at-laid (p ∷ kept) all zero h = laid-beside p.kept p.points (All-head (IsLaid tables width base) p kept all) h
  rows_at-laid (p ∷ kept) all (suc n) h = rows_at-laid kept (All-tail (IsLaid tables width base) p kept all) n h

  laid-some : (o : Option Rows) (points : List ℕ) (rows : Rows) → o ≡ Some rows → rows ≡ rows_of_text tables width base points
      → IfSome o (λ (rows : Rows). rows ≡ rows_of_text tables width base points)
  laid-some o points rows e is = subst (λ (k : Option Rows). IfSome k (λ (rows : Rows). rows ≡ rows_of_text tables width base points)) (sym e) is

  -- a paragraph's own rows are kept of it
  pub laid-set : (kept new : KeptText) (n : ℕ) (rows : Rows) → paragraphs_in new ≡ paragraphs_in kept → kept_in new ≡ set (kept_in kept) n (Some rows)
      → rows ≡ rows_of_text tables width base (get_or (paragraphs_in kept) n []) → All (IsLaid tables width base) kept → All (IsLaid tables width base) new
  laid-set [] [] n rows e f is all = All-nil (IsLaid tables width base)
  laid-set [] (q ∷ new) n rows e f is all = cc
  laid-set (p ∷ kept) [] n rows e f is all = cc
  laid-set (p ∷ kept) (q ∷ new) zero rows e f is all =
      let same = kept-same kept new (ap (drop 1) e) (ap (drop 1) f) in
      let points = ap (λ l. get_or l 0 []) e in
      All-cons (IsLaid tables width base) q new
      (laid-some q.kept q.points rows (ap (λ l. get_or l 0 None) f) (is ∙ ap (rows_of_text tables width base) (sym points)))
      (subst (All (IsLaid tables width base)) (sym same) (All-tail (IsLaid tables width base) p kept all))
  laid-set (p ∷ kept) (q ∷ new) (suc n) rows e f is all =
      let make : List ℕ → Option Rows → KeptParagraph Rows = λ points k. record { points = points; kept = k } in
      let same : q ≡ p = ap₂ make (ap (λ l. get_or l 0 []) e) (ap (λ l. get_or l 0 None) f) in
      All-cons (IsLaid tables width base) q new
      (subst (IsLaid tables width base) (sym same) (All-head (IsLaid tables width base) p kept all))
      (laid-set kept new n rows (ap (drop 1) e) (ap (drop 1) f) is (All-tail (IsLaid tables width base) p kept all))

  -- nothing is kept of any of them
  pub laid-none : (kept new : KeptText) → kept_in new ≡ forgotten (kept_in kept) → All (IsLaid tables width base) new
  laid-none kept [] e = All-nil (IsLaid tables width base)
  laid-none [] (q ∷ new) e = cc
  laid-none (p ∷ kept) (q ∷ new) e =
      All-cons (IsLaid tables width base) q new
      (subst (λ (k : Option Rows). IfSome k (λ (rows : Rows). rows ≡ rows_of_text tables width base q.points)) (sym (ap (λ l. get_or l 0 None) e)) tt)
      (laid-none kept new (ap (drop 1) e))

  pub laid-anew : (texts : List (List ℕ)) → All (IsLaid tables width base) (map (anew {K = Rows}) texts)
  laid-anew [] = All-nil (IsLaid tables width base)
  laid-anew (t ∷ texts) = All-cons (IsLaid tables width base) (anew t) (map anew texts) tt (laid-anew texts)

  -- others, of which nothing is kept, in the place of some
  pub laid-replaced : (kept new : KeptText) (from to : ℕ) (made : List (List ℕ)) → new ≡ take from kept ++ (map anew made ++ drop to kept)
      → All (IsLaid tables width base) kept → All (IsLaid tables width base) new
  laid-replaced kept new from to made is all =
      subst (All (IsLaid tables width base)) (sym is)
      (All-append (IsLaid tables width base) (take from kept) (map anew made ++ drop to kept) (All-take (IsLaid tables width base) from kept all)
      (All-append (IsLaid tables width base) (map anew made) (drop to kept) (laid-anew made) (All-drop (IsLaid tables width base) to kept all)))

  -- with one more kept
  pub kept-set : (kept new : KeptText) (n : ℕ) (rows : Rows) → paragraphs_in new ≡ paragraphs_in kept → kept_in new ≡ set (kept_in kept) n (Some rows)
      → rows ≡ rows_of_text tables width base (get_or (paragraphs_in kept) n []) → IsKeptAt tables width base kept → IsKeptAt tables width base new
  kept-set kept new n rows e f is at = record {
    at_least = at.at_least;
    at_most = at.at_most;
    split = subst (IsSplit tables) (sym e) at.split;
    laid = laid-set kept new n rows e f is at.laid;
  }

-- ---- what weighs that is kept

abbrev pub own_held : KeptParagraph Rows → ℕ
own_held p = option_map_or rows_weight p.kept 0

pub held-beside : (o : Option Rows) → option_map_or rows_weight o 0 ≡ rows_weight (option_map_or (λ (rows : Rows). rows) o [])
held-beside None = omega arith
held-beside (Some rows) = refl

pub held-cons : (p : KeptParagraph Rows) (kept : KeptText) → weight_held (p ∷ kept) ≡ rows_weight (rows_beside p) + weight_held kept
held-cons p kept = sum_by-cons own_held p kept ∙ ap (λ n. n + weight_held kept) (held-beside p.kept)

-- one more paragraph is kept
pub held-set : (kept new : KeptText) (n : ℕ) (rows : Rows) → paragraphs_in new ≡ paragraphs_in kept → kept_in new ≡ set (kept_in kept) n (Some rows)
    → slice_get (kept_in kept) n ≡ Some None → weight_held new ≡ weight_held kept + rows_weight rows
held-set [] new n rows e f h = cc
held-set (p ∷ kept) [] n rows e f h = cc
held-set (p ∷ kept) (q ∷ new) zero rows e f h =
    let a = held-cons p kept in
    let b = held-cons q new in
    let same = ap weight_held (kept-same kept new (ap (drop 1) e) (ap (drop 1) f)) in
    let none : rows_weight (rows_beside p) ≡ 0 = ap (λ (k : Option Rows). rows_weight (option_map_or (λ (rows : Rows). rows) k [])) (same_Some p.kept None h) in
    let some : rows_weight (rows_beside q) ≡ rows_weight rows = ap (λ (k : Option Rows). rows_weight (option_map_or (λ (rows : Rows). rows) k [])) (ap (λ l. get_or l 0 None) f) in
    omega arith
held-set (p ∷ kept) (q ∷ new) (suc n) rows e f h =
    let a = held-cons p kept in
    let b = held-cons q new in
    let own : rows_weight (rows_beside q) ≡ rows_weight (rows_beside p) = ap (λ (k : Option Rows). rows_weight (option_map_or (λ (rows : Rows). rows) k [])) (ap (λ l. get_or l 0 None) f) in
    let later = held-set kept new n rows (ap (drop 1) e) (ap (drop 1) f) h in
    omega arith
