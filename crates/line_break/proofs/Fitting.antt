-- Each line fits.
use Rattle.std.proofs.Common.{◌≡◌, ℕ, zero, suc, ◌+◌, ◌-◌, ◌≤◌, Bool, true, false, cond, ◌&&◌, Option, Some, None, List, [], ◌∷◌, length, take, drop, slice_range, unwrap_or, leb, refl, sym, ap, subst, ◌∙◌, arith}
use Rattle.std.proofs.lemmas.Bool.{le-leb}
use Rattle.std.proofs.lemmas.List.{drop-drop}
use Rattle.std.proofs.lemmas.List.Elements.{All-nil, All-cons, All-head, All-drop}
use Rattle.std.specs.List.{All, list_all}
use Rattle.unicode_tables.specs.Tables.{TableValues}
use Rattle.line_break.specs.declared.cluster.Cluster.{Cluster}
use Rattle.line_break.specs.declared.line.Line.{Line}
use Rattle.line_break.specs.LineClusters.{hangs, line_clusters}
use Rattle.line_break.specs.Lines.{columns, fits, is_in_reach, is_opportunity, greatest, line_len, lines_from, lines_of, lines}
use Rattle.line_break.proofs.Measuring.{two-line_clusters}

pick-passes : (passes : ℕ → Bool) (n m : ℕ) (b : Bool) → passes (suc n) ≡ b → (greatest passes n ≡ Some m → passes m ≡ true) → cond b (Some (suc n)) (greatest passes n) ≡ Some m → passes m ≡ true
pick-passes passes n m true is later found = let same : suc n ≡ m = cc in subst (λ k. passes k ≡ true) same is
pick-passes passes n m false is later found = later found

greatest-passes : (passes : ℕ → Bool) (n m : ℕ) → greatest passes n ≡ Some m → passes m ≡ true
unfolding greatest
greatest-passes passes zero m e = cc
greatest-passes passes (suc n) m e = pick-passes passes n m (passes (suc n)) refl (greatest-passes passes n m) e

left_true : (a b : Bool) → (a && b) ≡ true → a ≡ true
left_true true b h = refl
left_true false b h = h

module _ (width : ℕ) where
  reach-fits : (stretch : List Cluster) (end : ℕ) → is_in_reach width stretch end ≡ true → fits width (take end stretch) ≡ true
  unfolding is_in_reach
  reach-fits stretch end h = left_true _ _ h

  one-fits : (c : Cluster) (later : List Cluster) → columns (c ∷ []) ≤ width → fits width (take 1 (c ∷ later)) ≡ true
  one-fits c later le =
      elim (list_all hangs (c ∷ [])) as (λ b. leb (columns (cond b [] (c ∷ []))) width ≡ true) [
        | true ↦ le-leb 0 width (omega arith)
        | false ↦ le-leb (columns (c ∷ [])) width (omega arith)
      ]

  chosen-fits : (c : Cluster) (later : List Cluster) → columns (c ∷ []) ≤ width → (o p : Option ℕ)
      → greatest (λ end. is_in_reach width (c ∷ later) end && is_opportunity (c ∷ later) end) (length (c ∷ later)) ≡ o
      → greatest (is_in_reach width (c ∷ later)) (length (c ∷ later)) ≡ p → fits width (take (unwrap_or o (unwrap_or p 1)) (c ∷ later)) ≡ true
  chosen-fits c later le (Some m) p e f =
      reach-fits (c ∷ later) m (left_true _ _ (greatest-passes (λ end. is_in_reach width (c ∷ later) end && is_opportunity (c ∷ later) end) (length (c ∷ later)) m e))
  chosen-fits c later le None (Some m) e f = reach-fits (c ∷ later) m (greatest-passes (is_in_reach width (c ∷ later)) (length (c ∷ later)) m f)
  chosen-fits c later le None None e f = one-fits c later le

  line_len-fits : (c : Cluster) (later : List Cluster) → columns (c ∷ []) ≤ width → fits width (take (line_len width (c ∷ later)) (c ∷ later)) ≡ true
  unfolding line_len
  line_len-fits c later le = chosen-fits c later le _ _ refl refl

-- lines of all of these clusters, none of which has more than two columns
module _ (width : ℕ) (wide : 2 ≤ width) (all : List Cluster) (narrow : All (λ (c : Cluster). c.columns ≤ 2) all) where
  FitsIn : Line → Type 0
  FitsIn line = fits width (slice_range all line.start line.end) ≡ true

  from-fit : (n start : ℕ) (cl : List Cluster) → drop start all ≡ cl → All FitsIn (lines_from n width start cl)
  unfolding lines_from FitsIn
  from-fit zero start cl e = All-nil FitsIn
  from-fit (suc n) start [] e = All-nil FitsIn
  from-fit (suc n) start (c ∷ cl) e =
      let len = line_len width (c ∷ cl) in
      let two = All-head (λ (d : Cluster). d.columns ≤ 2) c cl (subst (All (λ (d : Cluster). d.columns ≤ 2)) e (All-drop (λ (d : Cluster). d.columns ≤ 2) start all narrow)) in
      let size : start + len - start ≡ len = omega arith in
      All-cons FitsIn (record { start = start; end = start + len }) (lines_from n width (start + len) (drop len (c ∷ cl)))
      (ap (λ k. fits width (take k (drop start all))) size ∙ ap (λ l. fits width (take len l)) e ∙ line_len-fits width c cl (omega arith))
      (from-fit n (start + len) (drop len (c ∷ cl)) (sym (drop-drop len start all) ∙ ap (drop len) e))

  of-fit : (cl : List Cluster) → all ≡ cl → All FitsIn (lines_of width cl)
  unfolding lines_of FitsIn
  of-fit [] e = All-cons FitsIn (record { start = 0; end = 0 }) [] (le-leb 0 width (omega arith)) (All-nil FitsIn)
  of-fit (c ∷ cl) e = from-fit (length (c ∷ cl)) 0 (c ∷ cl) e

pub lines-fit : (tables : TableValues) (text : List ℕ) (width : ℕ) → 2 ≤ width
    → All (λ (line : Line). fits width (slice_range (line_clusters tables text) line.start line.end) ≡ true) (lines tables text width)
unfolding FitsIn
lines-fit tables text width wide = of-fit width wide (line_clusters tables text) (two-line_clusters tables text) (line_clusters tables text) refl
