-- The steps of the loop that arranges a stretch of a line.
use Rattle.std.proofs.Common.{ℕ, ◌≡◌, ◌+◌, ◌-◌, ◌<◌, ◌≤◌, ◌⊎◌, inl, inr, refl, ap, sym, ◌∙◌, subst, List, length, get_or, Bool, true, false, arith}
use Rattle.std.specs.Prelude.{if◌then◌else◌, slice_set}
use Rattle.std.proofs.lemmas.List.{get_or-set_other}
use Rattle.std.proofs.lemmas.Bool.{cases_lt}
use Rattle.reorder.specs.VisualList.{numbers, is_odd, arranged}
use Rattle.reorder.specs.Links.{clusters_between}
use Rattle.reorder.proofs.Between.{placed-within}
use Rattle.reorder.proofs.Linked.{each-weaker, linked-last, linked-frame}
use Rattle.reorder.proofs.Parts.{IsArranged, AreHigh, arranged-step, arranged-single}

le-trans : {a b c : ℕ} → a ≤ b → b ≤ c → a ≤ c
le-trans p q = omega arith

lt-trans : {a b c : ℕ} → a < b → b < c → a < c
lt-trans p q = omega arith

le-from-lt : {a b : ℕ} → a < b → a ≤ b
le-from-lt p = omega arith

-- a stretch from `start` on: its levels are at least `level`, and it stands in visual order as this piece; what stands before it keeps its links
pub record IsStretch (levels old links : List ℕ) (start end floor level first last : ℕ) : Type 0 where
  pub begun : start < end
  pub within : end ≤ length levels
  pub above : floor ≤ level
  pub high : AreHigh levels start end level
  pub tip : end < length levels → level < get_or levels end 0 → get_or levels (end - 1) 0 ≡ level
  pub linked : IsArranged levels links first last start end
  pub before : (k : ℕ) → k < start → get_or links k 0 ≡ get_or old k 0

-- what comes to a stretch that ends at `end`, whose level then is `level'`
pub record IsLater (levels links links' : List ℕ) (floor level level' end end' first last : ℕ) : Type 0 where
  pub begun : end < end'
  pub within : end' ≤ length levels
  pub above : floor ≤ level'
  pub lower : level' ≤ level
  pub high : AreHigh levels end end' level'
  pub attained : (get_or levels (end - 1) 0 ≡ level') ⊎ (get_or levels end 0 ≡ level')
  pub tip : end' < length levels → level' < get_or levels end' 0 → get_or levels (end' - 1) 0 ≡ level'
  pub linked : IsArranged levels links' first last end end'
  pub before : (k : ℕ) → k < end → get_or links' k 0 ≡ get_or links k 0

pub later-moved : (levels links new links' : List ℕ) (floor level lv level' end e end' f f' l l' : ℕ) →
    links' ≡ new → level' ≡ lv → end' ≡ e → f' ≡ f → l' ≡ l →
    IsLater levels links new floor level lv end e f l → IsLater levels links links' floor level level' end end' f' l'
later-moved levels links new links' floor level lv level' end e end' f f' l l' p q r s t h =
    subst (λ x. IsLater levels links links' floor level level' end end' f' x) (sym t)
    (subst (λ x. IsLater levels links links' floor level level' end end' x l) (sym s)
    (subst (λ x. IsLater levels links links' floor level level' end x f l) (sym r)
    (subst (λ x. IsLater levels links links' floor level x end e f l) (sym q)
    (subst (λ x. IsLater levels links x floor level lv end e f l) (sym p) h))))

pub later-single : (levels links : List ℕ) (floor level end : ℕ) → end < length levels → floor ≤ get_or levels end 0 → get_or levels end 0 ≤ level →
    IsLater levels links links floor level (get_or levels end 0) end (end + 1) end end
later-single levels links floor level end lt above below = record {
  begun = omega arith;
  within = omega arith;
  above = above;
  lower = below;
  high = λ k p q. (let e : k ≡ end = omega arith in subst (λ n. get_or levels end 0 ≤ get_or levels n 0) (sym e) (omega arith));
  attained = inr refl;
  tip = λ _ _. ap (λ n. get_or levels n 0) (let e : end + 1 - 1 ≡ end = omega arith in e);
  linked = arranged-single levels links end lt;
  before = λ k p. refl;
}

pub later-upper : (levels links new : List ℕ) (floor level end e f l : ℕ) → end < e → e ≤ length levels → floor ≤ level →
    AreHigh levels end e (level + 1) → (e < length levels → get_or levels e 0 < level + 1) → get_or levels (end - 1) 0 ≡ level →
    IsArranged levels new f l end e → ((k : ℕ) → k < end → get_or new k 0 ≡ get_or links k 0) →
    IsLater levels links new floor level level end e f l
later-upper levels links new floor level end e f l begun within above high whole at linked before = record {
  begun = begun;
  within = within;
  above = above;
  lower = omega arith;
  high = λ k p q. (let h = high k p q in omega arith);
  attained = inl at;
  tip = λ lt up. (let h = whole lt in absurd (omega arith));
  linked = linked;
  before = before;
}

pub stretch-start : (levels links : List ℕ) (floor start f l : ℕ) → start < length levels → floor ≤ get_or levels start 0 → f ≡ start → l ≡ start →
    IsStretch levels links links start (start + 1) floor (get_or levels start 0) f l
stretch-start levels links floor start f l lt above p q = record {
  begun = omega arith;
  within = omega arith;
  above = above;
  high = λ k a b. (let e : k ≡ start = omega arith in subst (λ n. get_or levels start 0 ≤ get_or levels n 0) (sym e) (omega arith));
  tip = λ _ _. ap (λ n. get_or levels n 0) (let e : start + 1 - 1 ≡ start = omega arith in e);
  linked = subst (λ x. IsArranged levels links f x start (start + 1)) (sym q)
      (subst (λ x. IsArranged levels links x start start (start + 1)) (sym p) (arranged-single levels links start lt));
  before = λ k _. refl;
}

pub stretch-last : (levels links : List ℕ) (f l a b : ℕ) → a < b → b ≤ length levels → IsArranged levels links f l a b → (a ≤ l) × (l < b)
stretch-last levels links f l a b lt within h =
    linked-last (λ k. (a ≤ k) × (k < b)) links f l (numbers (arranged levels (clusters_between levels a b))) h (placed-within levels a b (omega arith) within)

set-before : (odd : Bool) (links : List ℕ) (l f l' f' start k : ℕ) → start ≤ l → start ≤ l' → k < start →
    get_or (if odd then slice_set links l' f else slice_set links l f') k 0 ≡ get_or links k 0
set-before true links l f l' f' start k p q lt = get_or-set_other links l' k f 0 (λ e. omega arith)
set-before false links l f l' f' start k p q lt = get_or-set_other links l k f' 0 (λ e. omega arith)

pub stretch-step : (levels old links links' links'' : List ℕ) (start end end' floor level level' f l f' l' f'' l'' : ℕ) →
    length links' ≡ length levels → IsStretch levels old links start end floor level f l →
    IsLater levels links links' floor level level' end end' f' l' →
    links'' ≡ (if is_odd level' then slice_set links' l' f else slice_set links' l f') →
    f'' ≡ (if is_odd level' then f' else f) → l'' ≡ (if is_odd level' then l else l') →
    IsStretch levels old links'' start end' floor level' f'' l''
stretch-step levels old links links' links'' start end end' floor level level' f l f' l' f'' l'' n h later p q r =
    let own = numbers (arranged levels (clusters_between levels start end)) in
    let begun : start < end = h.begun in
    let begun' : end < end' = later.begun in
    let within : end' ≤ length levels = later.within in
    let kept : IsArranged levels links' f l start end =
    linked-frame links links' f l (numbers (arranged levels (clusters_between levels start end))) h.linked
    (each-weaker (λ k. (start ≤ k) × (k < end)) (λ k. get_or links' k 0 ≡ get_or links k 0) (λ k b. later.before k b.1)
    (numbers (arranged levels (clusters_between levels start end))) (placed-within levels start end (omega arith) (omega arith))) in
    let high : AreHigh levels start end' level' = λ k a b. elim (cases_lt k end) [
      | inl lt ↦ le-trans (later.lower) (h.high k a lt)
      | inr ge ↦ later.high k ge b
    ] in
    let at = stretch-last levels links' f l start end begun (omega arith) kept in
    let at' = stretch-last levels links' f' l' end end' begun' within later.linked in
    let step = arranged-step levels links' f l f' l' start end end' level' begun begun' within n high later.attained kept later.linked in
    record {
      begun = omega arith;
      within = within;
      above = later.above;
      high = high;
      tip = later.tip;
      linked = subst (λ x. IsArranged levels links'' f'' x start end') (sym r)
          (subst (λ x. IsArranged levels links'' x (if is_odd level' then l else l') start end') (sym q)
          (subst (λ x. IsArranged levels x (if is_odd level' then f' else f) (if is_odd level' then l else l') start end') (sym p) step));
      before = λ k lt. ap (λ x. get_or x k 0) p
          ∙ set-before (is_odd level') links' l f l' f' start k at.0 (le-trans (le-from-lt begun) at'.0) lt
          ∙ later.before k (lt-trans lt begun) ∙ h.before k lt;
    }
