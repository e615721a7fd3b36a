-- The links of a paragraph's places.
use Rattle.std.proofs.Common.{ℕ, suc, ◌≡◌, ◌≤◌, ◌<◌, ◌+◌, ◌-◌, inl, inr, refl, ap, subst, sym, ◌∙◌, List, [], ◌∷◌, ◌++◌, length, get_or, drop, Option, Some, None, Bool, true, false, if◌then◌else◌, zero-add, arith}
use Rattle.std.specs.Prelude.{is_some, not, ◌&&◌, IfSome}
use Rattle.std.proofs.lemmas.Bool.{cases_Bool}
use Rattle.std.proofs.lemmas.List.{length-drop}
use Rattle.std.proofs.lemmas.Option.{slice_get-get_or}
use Rattle.bg_types.specs.declared.class.Bidi.{Bidi}
use Rattle.bidi_explicit.specs.declared.controls.Control.{Control}
use Rattle.bidi_explicit.specs.declared.embedded.Extent.{Extent}
use Rattle.bidi_explicit.specs.declared.kept.Kept.{Kept}
use Rattle.bidi_explicit.specs.Sequences.{kept_at, is_kept, same_level, has_level_of, kept_from, kept_after, kept_before, over_isolate, next_by, below, follows, begins, last_or, level_or, sos_of, eos_of}
use Rattle.bidi_explicit.specs.Extents.{extent_of}
use Rattle.bidi_explicit.specs.Links.{pdi_at, linked, is_unclosed, is_unclosed_at, AreKept, AreMatched}
use Rattle.bidi_explicit.specs.LevelRuns.{IsLevelRun}
use Rattle.bidi_explicit.proofs.Chains.{kept_at-is, kept_from-here, next-out, next-after, range-more, IsForward}
use Rattle.bidi_explicit.proofs.Runs.{run-beside}

pub below-more : (n : ℕ) → below (suc n) ≡ below n ++ n ∷ []
below-more n = range-more 0 n ∙ ap (λ k. below n ++ k ∷ []) (zero-add n)

leads : (o : Option ℕ) (i n : ℕ) → IfSome o (λ j. (i < j) × (j < n)) → (j : ℕ) → o ≡ Some j → (i < j) × (j < n)
leads None i n h j e = absurd (let z : ⊥ = cc in z)
leads (Some k) i n h j e = let same : k ≡ j = cc in subst (λ m. (i < m) × (m < n)) same h

-- links lead forward
abbrev IsAhead : ℕ → ℕ → ℕ → Type 0
IsAhead i n j = (i < j) × (j < n)

if_some : (P : ℕ → Type 0) (b : Bool) (x y : Option ℕ) → IfSome x P → IfSome y P → IfSome (if b then x else y) P
if_some P true x y h k = h
if_some P false x y h k = k

abbrev IsFrom : ℕ → ℕ → ℕ → Type 0
IsFrom i n j = (i ≤ j) × (j < n)

from-next : (o : Option ℕ) (i n m : ℕ) → m ≡ n → IfSome o (IsFrom (suc i) m) → IfSome o (IsFrom i n)
from-next (Some j) i n m e h = (let le = h.0 in omega arith, let lt = h.1 in omega arith)
from-next None i n m e h = tt

kept_from-within : (i : ℕ) (places : List (Option Kept)) → IfSome (kept_from i places) (IsFrom i (i + length places))
kept_from-within i [] = tt
kept_from-within i (Some k ∷ places) = (omega arith, omega arith)
kept_from-within i (None ∷ places) =
    from-next (kept_from (suc i) places) i (i + suc (length places)) (suc i + length places) (omega arith) (kept_from-within (suc i) places)

after-from : (o : Option ℕ) (i n m : ℕ) → m ≡ n - suc i → IfSome o (IsFrom (suc i) (suc i + m)) → IfSome o (IsAhead i n)
after-from (Some j) i n m e h = (let le = h.0 in omega arith, let le = h.0 in let lt = h.1 in omega arith)
after-from None i n m e h = tt

over_isolate-some : (P : ℕ → Type 0) (places : List (Option Kept)) (o : Option ℕ) → IfSome o P → IfSome (over_isolate places o) P
over_isolate-some P places (Some j) h = if_some P (has_level_of places j (kept_before places j)) None (Some j) tt h
over_isolate-some P places None h = tt

leading : (o : Option ℕ) (i n : ℕ) → ((j : ℕ) → o ≡ Some j → (i < j) × (j < n)) → IfSome o (λ j. (i < j) × (j < n))
leading (Some j) i n h = h j refl
leading None i n h = tt

pub linked-forward : (controls : List Control) (places : List (Option Kept)) → AreMatched controls → length controls ≡ length places →
    IsForward (linked controls places) (length places)
linked-forward controls places matched long i j e =
    let n = length places in
    let after : IfSome (kept_after places i) (IsAhead i (length places)) =
    after-from (kept_after places i) i n (length (drop (suc i) places)) (length-drop (suc i) places) (kept_from-within (suc i) (drop (suc i) places)) in
    let over : IfSome (over_isolate places (pdi_at controls i)) (IsAhead i (length places)) =
    over_isolate-some (IsAhead i n) places (pdi_at controls i) (leading (pdi_at controls i) i n (λ k is. subst (λ m. (i < k) × (k < m)) long (matched i k is))) in
    leads (linked controls places i) i n
    (if_some (IsAhead i n) (is_kept places i) (if has_level_of places i (kept_after places i) then kept_after places i else over_isolate places (pdi_at controls i)) None
    (if_some (IsAhead i n) (has_level_of places i (kept_after places i)) (kept_after places i) (over_isolate places (pdi_at controls i)) after over) tt) j e

none_some : (j : ℕ) → None ≡ Some j → ⊥
none_some j h = cc

-- what is linked is kept
pub linked-from_kept : (controls : List Control) (places : List (Option Kept)) (i j : ℕ) → linked controls places i ≡ Some j → is_kept places i ≡ true
linked-from_kept controls places i j e =
    elim (cases_Bool (is_kept places i)) [
      | inl kept ↦ kept
      | inr out ↦ absurd (none_some j (sym (next-out places (pdi_at controls i) i out) ∙ e))
    ]

-- what links lead to is kept
abbrev IsKeptThere : List (Option Kept) → Option ℕ → Type 0
IsKeptThere places (Some j) = is_kept places j ≡ true
IsKeptThere places None = Unit {0}

kept_if : (places : List (Option Kept)) (b : Bool) (x y : Option ℕ) → (b ≡ true → IsKeptThere places x) → IsKeptThere places y → IsKeptThere places (if b then x else y)
kept_if places true x y h k = h refl
kept_if places false x y h k = k

same_level-kept : (a b : Option Kept) → same_level a b ≡ true → is_some b ≡ true
same_level-kept (Some x) (Some y) h = refl
same_level-kept (Some x) None h = cc
same_level-kept None b h = cc

same_level-first : (a b : Option Kept) → same_level a b ≡ true → is_some a ≡ true
same_level-first (Some x) b h = refl
same_level-first None b h = cc

has_level_of-kept : (places : List (Option Kept)) (i : ℕ) (o : Option ℕ) → has_level_of places i o ≡ true → IsKeptThere places o
has_level_of-kept places i (Some j) h = same_level-kept (kept_at places i) (kept_at places j) h
has_level_of-kept places i None h = tt

over_isolate-kept : (places : List (Option Kept)) (o : Option ℕ) → IsKeptThere places o → IsKeptThere places (over_isolate places o)
over_isolate-kept places (Some j) h = kept_if places (has_level_of places j (kept_before places j)) None (Some j) (λ _. tt) h
over_isolate-kept places None h = tt

next_by-kept : (places : List (Option Kept)) (pdi : Option ℕ) (i : ℕ) → IsKeptThere places pdi → IsKeptThere places (next_by places pdi i)
next_by-kept places pdi i h =
    kept_if places (is_kept places i) _ None
    (λ _. kept_if places (has_level_of places i (kept_after places i)) (kept_after places i) _ (has_level_of-kept places i (kept_after places i)) (over_isolate-kept places pdi h)) tt

kept_there : (places : List (Option Kept)) (o : Option ℕ) (j : ℕ) → IsKeptThere places o → o ≡ Some j → is_kept places j ≡ true
kept_there places o j h e = subst (IsKeptThere places) e h

pdi_there : (places : List (Option Kept)) (o : Option ℕ) → ((j : ℕ) → o ≡ Some j → is_kept places j ≡ true) → IsKeptThere places o
pdi_there places (Some j) h = h j refl
pdi_there places None h = tt

pub linked-kept : (controls : List Control) (places : List (Option Kept)) → AreKept controls places → (i j : ℕ) → linked controls places i ≡ Some j → is_kept places j ≡ true
linked-kept controls places kept i j e =
    kept_there places (linked controls places i) j (next_by-kept places (pdi_at controls i) i (pdi_there places (pdi_at controls i) (kept i))) e

pub pdi_at-is : (controls : List Control) (i : ℕ) (d : Control) → i < length controls → pdi_at controls i ≡ (get_or controls i d).pdi
pdi_at-is controls i d inside = rw (slice_get-get_or controls i d inside, pdi_at) refl

-- what is known of a sequence that ends at `last` is its extent
pub extent-is : (p : ℕ) (controls : List Control) (places : List (Option Kept)) (first last : ℕ) (chained : List ℕ) (d : Control) → last < length controls →
    last ≡ last_or first chained → (start from stop to level : ℕ) (sos eos : Bidi) → start ≡ from → stop ≡ to → level ≡ level_or p places (Some first) →
    sos ≡ sos_of p places first → eos ≡ eos_of p (is_unclosed (get_or controls last d)) places last →
    ◌≡◌ {A = Extent} (record { start = start; end = stop; level = level; sos = sos; eos = eos }) (extent_of p (is_unclosed_at controls) places from to first chained)
extent-is p controls places first last chained d inside at start from stop to level sos eos is-from is-to is-level is-sos is-eos =
    let unclosed : is_unclosed_at controls last ≡ is_unclosed (get_or controls last d) = rw (slice_get-get_or controls last d inside, is_unclosed_at) refl in
    let behind : eos ≡ eos_of p (is_unclosed_at controls (last_or first chained)) places (last_or first chained) =
    is-eos ∙ ap (λ u. eos_of p u places last) (sym unclosed) ∙ ap (λ i. eos_of p (is_unclosed_at controls i) places i) at in
    rw (is-from, is-to, is-level, is-sos, behind) refl

pub matched-here : (controls : List Control) (places : List (Option Kept)) (i : ℕ) (d : Control) → AreMatched controls → length controls ≡ length places →
    i < length controls → IfSome ((get_or controls i d).pdi) (λ j. (i < j) × (j < length places))
matched-here controls places i d matched long inside =
    leading ((get_or controls i d).pdi) i (length places)
    (λ j e. subst (λ n. (i < j) × (j < n)) long (matched i j (pdi_at-is controls i d inside ∙ e)))

pub begins-kept : (f : ℕ → Option ℕ) (places : List (Option Kept)) (i : ℕ) → begins f places i ≡ true → is_kept places i ≡ true
begins-kept f places i e = go (is_kept places i) (not (follows f (length places) i)) e
  where
    go : (a b : Bool) → (a && b) ≡ true → a ≡ true
    go true b h = refl
    go false b h = cc

-- a place is linked to the one right after it, if that has its level
pub linked-beside : (controls : List Control) (places : List (Option Kept)) (i : ℕ) → suc i < length places →
    same_level (kept_at places i) (kept_at places (suc i)) ≡ true → linked controls places i ≡ Some (suc i)
linked-beside controls places i inside same =
    let there : is_some (get_or places (suc i) None) ≡ true =
    ap is_some (sym (kept_at-is places (suc i) None inside)) ∙ same_level-kept (kept_at places i) (kept_at places (suc i)) same in
    next-after places (pdi_at controls i) i (same_level-first (kept_at places i) (kept_at places (suc i)) same) (suc i)
    (kept_from-here places (suc i) None inside there) same

-- inside a level run each place is linked to the next
pub linked-run : (controls : List Control) (places : List (Option Kept)) (start end : ℕ) → end ≤ length places → IsLevelRun places start end →
    (i : ℕ) → start ≤ i → suc i < end → linked controls places i ≡ Some (suc i)
linked-run controls places start end within run i from to =
    linked-beside controls places i (omega arith) (run-beside places start end run i from to)
