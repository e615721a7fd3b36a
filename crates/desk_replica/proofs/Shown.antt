-- Where an identifier stands among the elements of a walk that pass.
use Rattle.std.proofs.Common.{◌≡◌, ◌≤◌, ◌<◌, ◌+◌, ℕ, suc, Bool, true, false, cond, not, List, [], ◌∷◌, length, take, sym, ap, subst, ◌∙◌, refl, true≢false, arith}
use Rattle.std.specs.Prelude.{◌||◌, count_by, filter, insert, remove, map as each}
use Rattle.std.specs.List.{AllByRecursion, prefix_len}
use Rattle.std.proofs.lemmas.Bool.{or_left, or_right}
use Rattle.std.proofs.lemmas.List.Sums.{sum_by-cons}
use Rattle.bg_types.specs.Identifier.{Identifier, same_id}
use Rattle.bg_types.proofs.Interface.{same_id-is, same_id-itself}
use Rattle.rga_tree.proofs.Interface.{Entry, IsAbsent, AreDistinct, is_listed}

-- how many that pass stand before the identifier
abbrev pub passing_before : (Entry → Bool) → Identifier → List Entry → ℕ
passing_before p id es = count_by p (take (prefix_len (λ e. not (same_id id e.0)) es) es)

abbrev pub read : List Entry → List ℕ
read es = each (λ (e : Entry). e.1.ch) es

module _ (p : Entry → Bool) (id : Identifier) (y : Entry) (ys : List Entry) where
  before_here : same_id id y.0 ≡ true → passing_before p id (y ∷ ys) ≡ 0
  before_here here = ap (λ b. count_by p (take (cond (not b) (1 + prefix_len (λ e. not (same_id id e.0)) ys) 0) (y ∷ ys))) here

  before_next : same_id id y.0 ≡ false → passing_before p id (y ∷ ys) ≡ cond (p y) 1 0 + passing_before p id ys
  before_next other =
      let k = prefix_len (λ (e : Entry). not (same_id id e.0)) ys in
      let one : 1 + k ≡ suc k = omega arith in
      ap (λ b. count_by p (take (cond (not b) (1 + k) 0) (y ∷ ys))) other
      ∙ ap (λ m. count_by p (take m (y ∷ ys))) one
      ∙ sum_by-cons (λ (x : Entry). cond (p x) 1 0) y (take k ys)

same_passing : (p q : Entry → Bool) (id : Identifier) (es : List Entry) → IsAbsent id es → ((x : Entry) → same_id id x.0 ≡ false → q x ≡ p x) → filter q es ≡ filter p es
same_passing p q id [] absent same = refl
same_passing p q id (y ∷ ys) absent same = λ i. cond (same y absent.0 i) (y ∷ same_passing p q id ys absent.1 same i) (same_passing p q id ys absent.1 same i)

-- only of others that are listed is it asked whether they pass
pub same_before : (p q : Entry → Bool) (id : Identifier) (es : List Entry) → ((x : Entry) → is_listed x.0 es ≡ true → same_id id x.0 ≡ false → p x ≡ q x)
    → passing_before p id es ≡ passing_before q id es
same_before p q id [] same = refl
same_before p q id (y ∷ ys) same = by (same_id id y.0) refl (same_before p q id ys (λ x l. same x (or_right (same_id x.0 y.0) (is_listed x.0 ys) l)))
  where
    by : (b : Bool) → same_id id y.0 ≡ b → passing_before p id ys ≡ passing_before q id ys → passing_before p id (y ∷ ys) ≡ passing_before q id (y ∷ ys)
    by true here rest = before_here p id y ys here ∙ sym (before_here q id y ys here)
    by false other rest =
        let own = same y (or_left (same_id y.0 y.0) (is_listed y.0 ys) (same_id-itself y.0)) other in
        before_next p id y ys other ∙ (λ i. cond (own i) 1 0 + rest i) ∙ sym (before_next q id y ys other)

-- others that do not pass may be left out
pub before_filtered : (p q : Entry → Bool) (id : Identifier) (es : List Entry) → ((x : Entry) → p x ≡ true → q x ≡ true) → ((x : Entry) → same_id id x.0 ≡ true → q x ≡ true)
    → passing_before p id (filter q es) ≡ passing_before p id es
before_filtered p q id [] more own = refl
before_filtered p q id (y ∷ ys) more own = by (same_id id y.0) refl (before_filtered p q id ys more own)
  where
    kept : (b c : Bool) → same_id id y.0 ≡ false → p y ≡ b → q y ≡ c → passing_before p id (filter q ys) ≡ passing_before p id ys
        → passing_before p id (cond c (y ∷ filter q ys) (filter q ys)) ≡ cond b 1 0 + passing_before p id ys
    kept b true other is k rest = before_next p id y (filter q ys) other ∙ (λ i. cond (is i) 1 0 + rest i)
    kept true false other is k rest = absurd (true≢false (sym (more y is) ∙ k))
    kept false false other is k rest = omega (arith, rest)

    by : (b : Bool) → same_id id y.0 ≡ b → passing_before p id (filter q ys) ≡ passing_before p id ys → passing_before p id (filter q (y ∷ ys)) ≡ passing_before p id (y ∷ ys)
    by true here rest =
        ap (λ b. passing_before p id (cond b (y ∷ filter q ys) (filter q ys))) (own y here)
        ∙ before_here p id y (filter q ys) here ∙ sym (before_here p id y ys here)
    by false other rest = kept (p y) (q y) other refl refl rest ∙ sym (before_next p id y ys other)

-- ---- one more that passes, or one fewer

module _ (p q : Entry → Bool) (id : Identifier) (same : (x : Entry) → same_id id x.0 ≡ false → q x ≡ p x) where
  -- one that is listed once, and passes now, stands where as many stand before it
  pub put_at : (ch : ℕ) (es : List Entry) → AreDistinct es → is_listed id es ≡ true → AllByRecursion (λ e. same_id id e.0 ≡ true → e.1.ch ≡ ch) es
      → ((x : Entry) → same_id id x.0 ≡ true → (p x ≡ false) × (q x ≡ true))
      → (passing_before p id es ≤ length (read (filter p es))) × (read (filter q es) ≡ insert (read (filter p es)) (passing_before p id es) ch)
  put_at ch [] distinct listed chs own = absurd (true≢false (sym listed))
  put_at ch (y ∷ ys) distinct listed chs own = by (same_id id y.0) refl listed (λ l. put_at ch ys distinct.1 l chs.1 own)
    where
      n : ℕ
      n = passing_before p id ys

      absent : same_id id y.0 ≡ true → IsAbsent id ys
      absent here = subst (λ a. IsAbsent a ys) (sym (same_id-is id y.0 here)) distinct.0

      step : (b : Bool) (m : ℕ) → m ≡ cond b 1 0 + n → (n ≤ length (read (filter p ys))) × (read (filter q ys) ≡ insert (read (filter p ys)) n ch)
          → (m ≤ length (read (cond b (y ∷ filter p ys) (filter p ys)))) × (read (cond b (y ∷ filter q ys) (filter q ys)) ≡ insert (read (cond b (y ∷ filter p ys) (filter p ys))) m ch)
      step true m e h =
          let next : suc n ≡ m = omega (arith, e) in
          (let low = h.0 in omega (arith, e, low), ap (λ l. y.1.ch ∷ l) h.1 ∙ ap (λ j. insert (read (y ∷ filter p ys)) j ch) next)
      step false m e h =
          let at : n ≡ m = omega (arith, e) in
          (let low = h.0 in omega (arith, e, low), h.1 ∙ ap (λ j. insert (read (filter p ys)) j ch) at)

      by : (b : Bool) → same_id id y.0 ≡ b → (b || is_listed id ys) ≡ true
          → (is_listed id ys ≡ true → (n ≤ length (read (filter p ys))) × (read (filter q ys) ≡ insert (read (filter p ys)) n ch))
          → (passing_before p id (y ∷ ys) ≤ length (read (filter p (y ∷ ys)))) × (read (filter q (y ∷ ys)) ≡ insert (read (filter p (y ∷ ys))) (passing_before p id (y ∷ ys)) ch)
      by true is l rest =
          let k = before_here p id y ys is in
          let front : read (filter q (y ∷ ys)) ≡ ch ∷ read (filter p ys) =
          ap (λ b. read (cond b (y ∷ filter q ys) (filter q ys))) (own y is).1 ∙ (λ i. chs.0 is i ∷ read (same_passing p q id ys (absent is) same i)) in
          let none : read (filter p ys) ≡ read (filter p (y ∷ ys)) = ap (λ b. read (cond b (y ∷ filter p ys) (filter p ys))) (sym (own y is).0) in
          (omega (arith, k), front ∙ ap (λ l. ch ∷ l) none ∙ ap (λ j. insert (read (filter p (y ∷ ys))) j ch) (sym k))
      by false other l rest =
          let s = step (p y) (passing_before p id (y ∷ ys)) (before_next p id y ys other) (rest l) in
          (s.0, ap (λ b. read (cond b (y ∷ filter q ys) (filter q ys))) (same y other) ∙ s.1)

  -- and one that passes no more is gone from there
  pub cut_at : (es : List Entry) → AreDistinct es → is_listed id es ≡ true → ((x : Entry) → same_id id x.0 ≡ true → (p x ≡ true) × (q x ≡ false))
      → (passing_before p id es < length (read (filter p es))) × (read (filter q es) ≡ remove (read (filter p es)) (passing_before p id es))
  cut_at [] distinct listed own = absurd (true≢false (sym listed))
  cut_at (y ∷ ys) distinct listed own = by (same_id id y.0) refl listed (λ l. cut_at ys distinct.1 l own)
    where
      n : ℕ
      n = passing_before p id ys

      absent : same_id id y.0 ≡ true → IsAbsent id ys
      absent here = subst (λ a. IsAbsent a ys) (sym (same_id-is id y.0 here)) distinct.0

      step : (b : Bool) (m : ℕ) → m ≡ cond b 1 0 + n → (n < length (read (filter p ys))) × (read (filter q ys) ≡ remove (read (filter p ys)) n)
          → (m < length (read (cond b (y ∷ filter p ys) (filter p ys)))) × (read (cond b (y ∷ filter q ys) (filter q ys)) ≡ remove (read (cond b (y ∷ filter p ys) (filter p ys))) m)
      step true m e h =
          let next : suc n ≡ m = omega (arith, e) in
          (let low = h.0 in omega (arith, e, low), ap (λ l. y.1.ch ∷ l) h.1 ∙ ap (λ j. remove (read (y ∷ filter p ys)) j) next)
      step false m e h =
          let at : n ≡ m = omega (arith, e) in
          (let low = h.0 in omega (arith, e, low), h.1 ∙ ap (λ j. remove (read (filter p ys)) j) at)

      by : (b : Bool) → same_id id y.0 ≡ b → (b || is_listed id ys) ≡ true
          → (is_listed id ys ≡ true → (n < length (read (filter p ys))) × (read (filter q ys) ≡ remove (read (filter p ys)) n))
          → (passing_before p id (y ∷ ys) < length (read (filter p (y ∷ ys)))) × (read (filter q (y ∷ ys)) ≡ remove (read (filter p (y ∷ ys))) (passing_before p id (y ∷ ys)))
      by true is l rest =
          let k = before_here p id y ys is in
          let front : read (filter q (y ∷ ys)) ≡ read (filter p ys) =
          ap (λ b. read (cond b (y ∷ filter q ys) (filter q ys))) (own y is).1 ∙ ap read (same_passing p q id ys (absent is) same) in
          let there : read (filter p (y ∷ ys)) ≡ y.1.ch ∷ read (filter p ys) = ap (λ b. read (cond b (y ∷ filter p ys) (filter p ys))) (own y is).0 in
          let long = ap length there in
          (omega (arith, k, long), front ∙ sym (ap (λ r. remove r 0) there) ∙ ap (λ j. remove (read (filter p (y ∷ ys))) j) (sym k))
      by false other l rest =
          let s = step (p y) (passing_before p id (y ∷ ys)) (before_next p id y ys other) (rest l) in
          (s.0, ap (λ b. read (cond b (y ∷ filter q ys) (filter q ys))) (same y other) ∙ s.1)
