-- The lines from a boundary on, line by line.
use Rattle.std.proofs.Common.{◌≡◌, ℕ, zero, suc, ◌+◌, ◌-◌, ◌<◌, ◌≤◌, ◌&&◌, ◌==◌, false, List, [], ◌∷◌, length, drop, unwrap_or, inl, inr, refl, ap, ◌∙◌, arith}
use Rattle.std.proofs.lemmas.Bool.Decides.{eqb_tells}
use Rattle.std.proofs.lemmas.List.{length-drop, drop-drop}
use Rattle.std.proofs.Math.ListN.{drop_of_length-le}
use Rattle.line_break.specs.declared.cluster.Cluster.{Cluster}
use Rattle.line_break.specs.declared.line.Line.{Line}
use Rattle.line_break.specs.Lines.{is_in_reach, is_opportunity, greatest, line_len, lines_from, lines_of}
use Rattle.line_break.specs.Open.{lines_left}
use Rattle.line_break.proofs.Greatest.{greatest-within}

abbrev pub line_of : ℕ → ℕ → Line
line_of start end = record { start = start; end = end }

module _ (w : ℕ) where
  -- a line has at least one cluster, and no more than there are
  pub line_len-within : (xs : List Cluster) → 0 < length xs → (1 ≤ line_len w xs) × (line_len w xs ≤ length xs)
  unfolding line_len
  line_len-within xs some =
      let inner = greatest-within (is_in_reach w xs) (length xs) 1 (length xs) (omega arith) (omega arith) (omega arith) in
      greatest-within (λ end. is_in_reach w xs end && is_opportunity xs end) (length xs)
      (unwrap_or (greatest (is_in_reach w xs) (length xs)) 1) (length xs) inner.0 inner.1 (omega arith)

  -- at most as many lines as clusters
  pub lines_from-enough : (n m s : ℕ) (xs : List Cluster) → length xs ≤ n → length xs ≤ m → lines_from n w s xs ≡ lines_from m w s xs
  unfolding lines_from
  lines_from-enough zero zero s xs a b = refl
  lines_from-enough zero (suc m) s [] a b = refl
  lines_from-enough zero (suc m) s (c ∷ xs) a b = absurd (omega arith)
  lines_from-enough (suc n) zero s [] a b = refl
  lines_from-enough (suc n) zero s (c ∷ xs) a b = absurd (omega arith)
  lines_from-enough (suc n) (suc m) s [] a b = refl
  lines_from-enough (suc n) (suc m) s (c ∷ xs) a b =
      let within = line_len-within (c ∷ xs) (omega arith) in
      let left = length-drop (line_len w (c ∷ xs)) (c ∷ xs) in
      ap (λ t. record { start = s; end = s + line_len w (c ∷ xs) } ∷ t)
      (lines_from-enough n m (s + line_len w (c ∷ xs)) (drop (line_len w (c ∷ xs)) (c ∷ xs)) (omega arith) (omega arith))

  pub lines_from-step : (s : ℕ) (xs : List Cluster) → 0 < length xs → lines_from (length xs) w s xs
      ≡ record { start = s; end = s + line_len w xs } ∷ lines_from (length (drop (line_len w xs) xs)) w (s + line_len w xs) (drop (line_len w xs) xs)
  unfolding lines_from
  lines_from-step s [] some = absurd (omega arith)
  lines_from-step s (c ∷ xs) some =
      let within = line_len-within (c ∷ xs) (omega arith) in
      let left = length-drop (line_len w (c ∷ xs)) (c ∷ xs) in
      ap (λ t. record { start = s; end = s + line_len w (c ∷ xs) } ∷ t)
      (lines_from-enough (length xs) (length (drop (line_len w (c ∷ xs)) (c ∷ xs))) (s + line_len w (c ∷ xs)) (drop (line_len w (c ∷ xs)) (c ∷ xs))
      (omega arith) (omega arith))

module _ (cl : List Cluster) (w : ℕ) where
  pub lines_left-line : (s e : ℕ) → s < e → e ≤ length cl → line_len w (drop s cl) ≡ e - s
      → lines_left cl w s ≡ record { start = s; end = e } ∷ lines_left cl w e
  unfolding lines_left
  lines_left-line s e low high len =
      let more = length-drop s cl in
      let at : s + (e - s) ≡ e = omega arith in
      lines_from-step w s (drop s cl) (omega arith)
      ∙ ap (λ n. record { start = s; end = s + n } ∷ lines_from (length (drop n (drop s cl))) w (s + n) (drop n (drop s cl))) len
      ∙ ap (λ xs. record { start = s; end = s + (e - s) } ∷ lines_from (length xs) w (s + (e - s)) xs) (drop-drop (e - s) s cl)
      ∙ ap (λ n. record { start = s; end = n } ∷ lines_from (length (drop n cl)) w n (drop n cl)) at

  pub lines_left-end : (s : ℕ) → length cl ≤ s → lines_left cl w s ≡ []
  unfolding lines_left lines_from
  lines_left-end s h = ap (λ xs. lines_from (length xs) w s xs) (drop_of_length-le cl h)

module _ (w : ℕ) where
  pub lines_of-nil : (cl : List Cluster) → length cl ≡ 0 → lines_of w cl ≡ record { start = 0; end = 0 } ∷ []
  unfolding lines_of
  lines_of-nil [] none = refl
  lines_of-nil (c ∷ cl) none = absurd (omega arith)

  pub lines_of-left : (cl : List Cluster) → 0 < length cl → lines_left cl w 0 ≡ lines_of w cl
  unfolding lines_of lines_left
  lines_of-left [] some = absurd (omega arith)
  lines_of-left (c ∷ cl) some = refl

pub some_from_test : (n : ℕ) → false ≡ (n == 0) → 0 < n
some_from_test n e = elim (eqb_tells n 0) [
  | inl same ↦ absurd (let t = same.0 in cc)
  | inr other ↦ let ne = other.1 in omega arith
]
