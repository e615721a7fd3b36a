-- Where the first line of some clusters ends, by what stands before it in the paragraph.
use Rattle.std.proofs.Common.{◌≡◌, ◌≢◌, ℕ, zero, suc, ◌+◌, ◌-◌, ◌<◌, ◌≤◌, Bool, true, false, not, ◌&&◌, ◌||◌, ◌==◌, List, [], ◌∷◌, ◌++◌, map, length, take, drop, get_or, unwrap_or, refl, sym, ap, subst, ◌∙◌, inl, inr, arith}
use Rattle.std.proofs.Math.Bool.{and-false, or-true}
use Rattle.std.proofs.lemmas.Bool.{le-leb, eq-eqb}
use Rattle.std.proofs.lemmas.Bool.Decides.{leb_tells, eqb_tells}
use Rattle.std.proofs.lemmas.List.{length-drop, take_all}
use Rattle.std.specs.List.{list_all}
use Rattle.line_break.specs.declared.cluster.Cluster.{Cluster}
use Rattle.line_break.specs.declared.status.Break.{Break}
use Rattle.line_break.specs.declared.status.Break.TheVariants.{Must, May, No}
use Rattle.line_break.specs.Lines.{columns, fits, is_must, is_break, status_at, is_in_reach, is_opportunity, greatest, line_len}
use Rattle.line_break.proofs.Greatest.{greatest-none, greatest-is}
use Rattle.line_break.proofs.Tails.{solid, solid-append, solid-grows}
use Rattle.bg_types.proofs.Interface.{two_cases}

take-add : (cl : List Cluster) (s e : ℕ) → take (s + e) cl ≡ take s cl ++ take e (drop s cl)
take-add cl zero e = let k : zero + e ≡ e = omega arith in ap (λ n. take n cl) k
take-add [] (suc s) e = let k : suc s + e ≡ suc (s + e) = omega arith in ap (λ n. take n []) k ∙ sym (take_all e [] (omega arith))
take-add (c ∷ cl) (suc s) e = let k : suc s + e ≡ suc (s + e) = omega arith in ap (λ n. take n (c ∷ cl)) k ∙ ap (λ t. c ∷ t) (take-add cl s e)

-- the status after the cluster of this number
unfoldable pub status_of : List Cluster → ℕ → Break
status_of cl i = get_or (map (λ (c : Cluster). c.after) cl) i Must

status_of-drop : (cl : List Cluster) (s i : ℕ) → status_of (drop s cl) i ≡ status_of cl (s + i)
unfolding status_of
status_of-drop cl zero i = let k : zero + i ≡ i = omega arith in ap (λ n. status_of cl n) (sym k)
status_of-drop [] (suc s) i = refl
status_of-drop (c ∷ cl) (suc s) i = let k : suc s + i ≡ suc (s + i) = omega arith in status_of-drop cl s i ∙ ap (λ n. status_of (c ∷ cl) n) (sym k)

is_free : Cluster → Bool
is_free c = not (is_must c.after)

not_must : (b : Break) → b ≢ Must → not (is_must b) ≡ true
not_must Must h = absurd (h refl)
not_must May h = refl
not_must No h = refl

all_free : (cl : List Cluster) (n : ℕ) → ((i : ℕ) → i < n → status_of cl i ≢ Must) → list_all is_free (take n cl) ≡ true
unfolding status_of is_free
all_free cl zero h = refl
all_free [] (suc n) h = refl
all_free (c ∷ cl) (suc n) h =
    let first = not_must c.after (h 0 (omega arith)) in
    ap (λ b. b && list_all is_free (take n cl)) first ∙ all_free cl n (λ i l. h (suc i) (omega arith))

not_free : (cl : List Cluster) (n i : ℕ) → i < n → i < length cl → status_of cl i ≡ Must → list_all is_free (take n cl) ≡ false
unfolding status_of is_free
not_free cl zero i l w h = absurd (omega arith)
not_free [] (suc n) i l w h = absurd (omega arith)
not_free (c ∷ cl) (suc n) zero l w h = ap (λ b. not (is_must b) && list_all is_free (take n cl)) h
not_free (c ∷ cl) (suc n) (suc i) l w h =
    let later = not_free cl n i (omega arith) (omega arith) h in
    ap (λ b. is_free c && b) later ∙ and-false (is_free c)

module _ (cl : List Cluster) (w : ℕ) where
  -- the columns outside the tail of a stretch, by those of all that stands before its end
  solid-stretch : (s e : ℕ) → solid (take e (drop s cl)) ≡ solid (take (s + e) cl) - columns (take s cl)
  solid-stretch s e = solid-append (take s cl) (take e (drop s cl)) ∙ ap (λ t. solid t - columns (take s cl)) (sym (take-add cl s e))

  pub solid-monotone : (a b : ℕ) → a ≤ b → solid (take a cl) ≤ solid (take b cl)
  solid-monotone a b le =
      let k : b ≡ a + (b - a) = omega arith in
      subst (λ (t : List Cluster). solid (take a cl) ≤ solid t) (sym (ap (λ n. take n cl) k ∙ take-add cl a (b - a))) (solid-grows (take a cl) (take (b - a) (drop a cl)))

  module _ (s : ℕ) where
    reach-true : (e : ℕ) → solid (take (s + e) cl) ≤ columns (take s cl) + w
        → ((k : ℕ) → s < k → k < s + e → status_at cl k ≢ Must) → is_in_reach w (drop s cl) e ≡ true
    unfolding is_in_reach is_free status_of
    reach-true e small none =
        let k = solid-stretch s e in
        let le : solid (take e (drop s cl)) ≤ w = omega arith in
        let free : list_all is_free (take (e - 1) (drop s cl)) ≡ true =
        all_free (drop s cl) (e - 1)
        (λ i l m. let at : s + suc i - 1 ≡ s + i = omega arith in
        none (s + suc i) (omega arith) (omega arith) (ap (λ n. status_of cl n) at ∙ sym (status_of-drop cl s i) ∙ m)) in
        ap (λ b. b && list_all is_free (take (e - 1) (drop s cl))) (le-leb _ _ le) ∙ free

    reach-wide : (e : ℕ) → columns (take s cl) + w < solid (take (s + e) cl) → is_in_reach w (drop s cl) e ≡ false
    unfolding is_in_reach
    reach-wide e wide =
        elim (leb_tells (solid (take e (drop s cl))) w) [
          | inl small ↦ absurd (let k = solid-stretch s e in let le = small.1 in omega arith)
          | inr big ↦ ap (λ b. b && list_all (λ (c : Cluster). not (is_must c.after)) (take (e - 1) (drop s cl))) big.0
        ]

    reach-must : (e k : ℕ) → s < k → k < s + e → k ≤ length cl → status_at cl k ≡ Must → is_in_reach w (drop s cl) e ≡ false
    unfolding is_in_reach is_free status_of
    reach-must e k low high within must =
        let at : s + (k - s - 1) ≡ k - 1 = omega arith in
        let len = length-drop s cl in
        let not_all : list_all is_free (take (e - 1) (drop s cl)) ≡ false =
        not_free (drop s cl) (e - 1) (k - s - 1) (omega arith) (omega arith)
        (status_of-drop cl s (k - s - 1) ∙ ap (λ n. status_of cl n) at ∙ must) in
        ap (λ b. fits w (take e (drop s cl)) && b) not_all ∙ and-false (fits w (take e (drop s cl)))

    status-stretch : (e : ℕ) → 1 ≤ e → status_at (drop s cl) e ≡ status_at cl (s + e)
    unfolding status_of
    status-stretch e low =
        let at : s + (e - 1) ≡ s + e - 1 = omega arith in
        status_of-drop cl s (e - 1) ∙ ap (λ n. status_of cl n) at

    opportunity-break : (e : ℕ) → 1 ≤ e → is_break (status_at cl (s + e)) ≡ true → is_opportunity (drop s cl) e ≡ true
    unfolding is_opportunity
    opportunity-break e low h =
        ap (λ b. is_break b || e == length (drop s cl)) (status-stretch e low) ∙ ap (λ b. b || e == length (drop s cl)) h

    opportunity-end : (e : ℕ) → s + e ≡ length cl → is_opportunity (drop s cl) e ≡ true
    unfolding is_opportunity
    opportunity-end e end =
        let len = length-drop s cl in
        ap (λ b. is_break (status_at (drop s cl) e) || b) (eq-eqb e (length (drop s cl)) (omega arith))
        ∙ or-true (is_break (status_at (drop s cl) e))

    opportunity-false : (e : ℕ) → 1 ≤ e → s + e < length cl → status_at cl (s + e) ≡ No → is_opportunity (drop s cl) e ≡ false
    unfolding is_opportunity
    opportunity-false e low inside h =
        let len = length-drop s cl in
        ap (λ b. is_break b || e == length (drop s cl)) (status-stretch e low ∙ h)
        ∙ elim (eqb_tells e (length (drop s cl))) [
          | inl same ↦ absurd (let k = same.1 in omega arith)
          | inr other ↦ other.0
        ]

    passes : ℕ → Bool
    passes end = is_in_reach w (drop s cl) end && is_opportunity (drop s cl) end

    passes-out : (e : ℕ) → is_in_reach w (drop s cl) e ≡ false → passes e ≡ false
    unfolding passes
    passes-out e h = ap (λ b. b && is_opportunity (drop s cl) e) h

    passes-no : (e : ℕ) → is_opportunity (drop s cl) e ≡ false → passes e ≡ false
    unfolding passes
    passes-no e h =
        two_cases (is_in_reach w (drop s cl) e)
        (λ r. ap (λ b. b && is_opportunity (drop s cl) e) r ∙ h)
        (λ r. ap (λ b. b && is_opportunity (drop s cl) e) r)

    passes-yes : (e : ℕ) → is_in_reach w (drop s cl) e ≡ true → is_opportunity (drop s cl) e ≡ true → passes e ≡ true
    unfolding passes
    passes-yes e r h = ap (λ b. b && is_opportunity (drop s cl) e) r ∙ h

    -- the greatest opportunity in F
    len-opportunity : (e : ℕ) → 1 ≤ e → s + e ≤ length cl → passes e ≡ true
        → ((j : ℕ) → e < j → s + j ≤ length cl → passes j ≡ false) → line_len w (drop s cl) ≡ e
    unfolding line_len passes
    len-opportunity e low high here later =
        let len = length-drop s cl in
        ap (λ o. unwrap_or o (unwrap_or (greatest (is_in_reach w (drop s cl)) (length (drop s cl))) 1))
        (greatest-is passes (length (drop s cl)) e low (omega arith) here (λ j above upto. later j above (omega arith)))

    -- no opportunity in F: the greatest of F
    len-reach : (e : ℕ) → 1 ≤ e → s + e ≤ length cl
        → ((j : ℕ) → 1 ≤ j → s + j ≤ length cl → passes j ≡ false)
        → is_in_reach w (drop s cl) e ≡ true → ((j : ℕ) → e < j → s + j ≤ length cl → is_in_reach w (drop s cl) j ≡ false)
        → line_len w (drop s cl) ≡ e
    unfolding line_len passes
    len-reach e low high none here later =
        let len = length-drop s cl in
        ap (λ o. unwrap_or o (unwrap_or (greatest (is_in_reach w (drop s cl)) (length (drop s cl))) 1))
        (greatest-none passes (length (drop s cl)) (λ j one upto. none j one (omega arith)))
        ∙ ap (λ o. unwrap_or o 1)
        (greatest-is (is_in_reach w (drop s cl)) (length (drop s cl)) e low (omega arith) here (λ j above upto. later j above (omega arith)))

  module _ (s k : ℕ) (small : solid (take k cl) ≤ columns (take s cl) + w) where
    -- a boundary up to which the line fits, where no line must end before it
    fit : (e : ℕ) → s < e → e ≤ k → ((i : ℕ) → s < i → i < e → status_at cl i ≢ Must) → is_in_reach w (drop s cl) (e - s) ≡ true
    fit e low high none =
        let at : s + (e - s) ≡ e = omega arith in
        let le = solid-monotone e k high in
        let within : solid (take e cl) ≤ columns (take s cl) + w = omega arith in
        reach-true s (e - s) (subst (λ (n : ℕ). solid (take n cl) ≤ columns (take s cl) + w) (sym at) within) (λ i a b. none i a (omega arith))

    breaks-at : (e : ℕ) → s < e → is_break (status_at cl e) ≡ true → is_opportunity (drop s cl) (e - s) ≡ true
    breaks-at e low h =
        let at : s + (e - s) ≡ e = omega arith in
        opportunity-break s (e - s) (omega arith) (subst (λ (n : ℕ). is_break (status_at cl n) ≡ true) (sym at) h)

    -- the line must end there
    pub len-must : s < k → k ≤ length cl → ((i : ℕ) → s < i → i < k → status_at cl i ≢ Must) → status_at cl k ≡ Must → line_len w (drop s cl) ≡ k - s
    len-must low within none must =
        len-opportunity s (k - s) (omega arith) (omega arith)
        (passes-yes s (k - s) (fit k low (omega arith) none) (breaks-at k low (ap is_break must)))
        (λ j above upto. passes-out s j (reach-must s j k low (omega arith) within must))

    -- the paragraph ends there
    pub len-end : s < k → k ≡ length cl → ((i : ℕ) → s < i → i < k → status_at cl i ≢ Must) → line_len w (drop s cl) ≡ k - s
    len-end low end none =
        len-opportunity s (k - s) (omega arith) (omega arith)
        (passes-yes s (k - s) (fit k low (omega arith) none) (opportunity-end s (k - s) (omega arith)))
        (λ j above upto. absurd (omega arith))

    module _ (inside : k < length cl) (over : columns (take s cl) + w < solid (take (k + 1) cl)) where
      too_wide : (j : ℕ) → k < s + j → is_in_reach w (drop s cl) j ≡ false
      too_wide j h = reach-wide s j (let more = solid-monotone (k + 1) (s + j) (omega arith) in omega arith)

      none_behind : (b : ℕ) → s ≤ b → ((i : ℕ) → b < i → i ≤ k → status_at cl i ≡ No) → (j : ℕ) → 1 ≤ j → b < s + j → passes s j ≡ false
      none_behind b low none j one above =
          elim (leb_tells (s + j) k) [
            | inl upto ↦ passes-no s j (opportunity-false s j one (let le = upto.1 in omega arith) (none (s + j) above upto.1))
            | inr past ↦ passes-out s j (too_wide j past.1)
          ]

      -- the line ends at the greatest opportunity up to which it fits
      pub len-break : (b : ℕ) → s < b → b ≤ k → ((i : ℕ) → s < i → i < b → status_at cl i ≢ Must) → is_break (status_at cl b) ≡ true
          → ((i : ℕ) → b < i → i ≤ k → status_at cl i ≡ No) → line_len w (drop s cl) ≡ b - s
      len-break b low high none here later =
          len-opportunity s (b - s) (omega arith) (omega arith)
          (passes-yes s (b - s) (fit b low high none) (breaks-at b low here))
          (λ j above upto. none_behind b (omega arith) later j (omega arith) (omega arith))

      -- there is none: it ends at the greatest boundary
      pub len-full : s < k → ((i : ℕ) → s < i → i < k → status_at cl i ≢ Must) → ((i : ℕ) → s < i → i ≤ k → status_at cl i ≡ No)
          → line_len w (drop s cl) ≡ k - s
      len-full low none later =
          len-reach s (k - s) (omega arith) (omega arith)
          (λ j one upto. none_behind s (omega arith) later j one (omega arith))
          (fit k low (omega arith) none)
          (λ j above upto. too_wide j (omega arith))
