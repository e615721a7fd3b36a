-- One pass of the flat rules gives the levels of the tree.
use Rattle.std.proofs.Common.{ℕ, zero, suc, ◌≡◌, ◌+◌, ◌<◌, ◌≤◌, ◌-◌, ◌==◌, refl, ap, sym, subst, ◌∙◌, List, [], ◌∷◌, ◌++◌, map, length, length-drop, get_or, take, drop, drop-cons, append_assoc, append-nil, add-one, Option, Bool, true, false, arith, if◌then◌else◌}
use Rattle.std.specs.Prelude.{slice_range}
use Rattle.std.proofs.lemmas.List.{drop_all, get_or-drop, map-append, take_more}
use Rattle.std.proofs.lemmas.Bool.{false≢true}
use Rattle.bg_types.specs.declared.class.Bidi.{Bidi}
use Rattle.bg_types.specs.declared.class.Bidi.TheVariants.{L, Rle, Lre, Rlo, Lro, Pdf, Bn, B, Lri, Rli, Fsi, Pdi}
use Rattle.paragraphs.specs.Classes.{is_removed, is_isolate_control, is_separator}
use Rattle.bidi_explicit.specs.declared.kind.Direction.{Direction}
use Rattle.bidi_explicit.specs.declared.controls.Control.{Control}
use Rattle.bidi_explicit.specs.declared.kind.Kind.{Kind}
use Rattle.bidi_explicit.specs.declared.kind.Kind.TheVariants.{Embedding, Initiator, PopIsolate, PopEmbedding, Other}
use Rattle.bidi_explicit.specs.declared.kind.Entry.{Entry}
use Rattle.bidi_explicit.specs.declared.kept.Kept.{Kept}
use Rattle.bidi_explicit.specs.Nesting.{nest, base}
use Rattle.bidi_explicit.specs.Levels.{kind, place_of, kept_under, fits, next_level, explicit_places}
use Rattle.bidi_explicit.specs.Uniform.{is_apart}
use Rattle.bidi_explicit.specs.Flat.{Machine, advance, seen, run, tokens, content, initial, top}
use Rattle.bidi_explicit.specs.Controls.{controls_from}
use Rattle.bidi_explicit.proofs.Matching.{get_or-controls}
use Rattle.bidi_explicit.proofs.FlatLemmas.{flat_places-is}

-- no step raises a count by more than one
pub record IsNear (m n : Machine) : Type 0 where
  pub embeddings : n.overflow_embeddings ≤ m.overflow_embeddings + 1
  pub overflow : n.overflow_isolates ≤ m.overflow_isolates + 1
  pub valid : n.valid_isolates ≤ m.valid_isolates + 1

if_near : (b : Bool) (m x y : Machine) → IsNear m x → IsNear m y → IsNear m (if b then x else y)
if_near true m x y p q = p
if_near false m x y p q = q

abbrev machine : List Entry → ℕ → ℕ → ℕ → Machine
machine st oi oe vi = record { stack = st; overflow_isolates = oi; overflow_embeddings = oe; valid_isolates = vi }

near_counts : (st st' : List Entry) (a b c x y z : ℕ) → x ≤ a + 1 → y ≤ b + 1 → z ≤ c + 1 → IsNear (machine st a b c) (machine st' x y z)
near_counts st st' a b c x y z p q r = record { embeddings = q; overflow = p; valid = r }

near : (k : Kind) (st : List Entry) (oi oe vi : ℕ) → IsNear (machine st oi oe vi) (advance k (machine st oi oe vi))
near (Embedding odd o) st zero oe vi = if_near (fits (next_level odd (top st).level) oe) (machine st 0 oe vi) _ _
    (near_counts st _ 0 oe vi 0 oe vi (omega arith) (omega arith) (omega arith))
    (near_counts st _ 0 oe vi 0 (suc oe) vi (omega arith) (omega arith) (omega arith))
near (Embedding odd o) st (suc n) oe vi = near_counts st st (suc n) oe vi (suc n) oe vi (omega arith) (omega arith) (omega arith)
near (Initiator odd) st zero oe vi = if_near (fits (next_level odd (top st).level) oe) (machine st 0 oe vi) _ _
    (near_counts st _ 0 oe vi 0 oe (suc vi) (omega arith) (omega arith) (omega arith))
    (near_counts st _ 0 oe vi 1 oe vi (omega arith) (omega arith) (omega arith))
near (Initiator odd) st (suc n) oe vi = near_counts st st (suc n) oe vi (suc (suc n)) oe vi (omega arith) (omega arith) (omega arith)
near PopIsolate st zero oe zero = near_counts st st 0 oe 0 0 oe 0 (omega arith) (omega arith) (omega arith)
near PopIsolate st zero oe (suc v) = near_counts st _ 0 oe (suc v) 0 0 v (omega arith) (omega arith) (omega arith)
near PopIsolate st (suc n) oe vi = near_counts st st (suc n) oe vi n oe vi (omega arith) (omega arith) (omega arith)
near PopEmbedding st zero zero vi = near_counts st _ 0 0 vi 0 0 vi (omega arith) (omega arith) (omega arith)
near PopEmbedding st zero (suc n) vi = near_counts st st 0 (suc n) vi 0 n vi (omega arith) (omega arith) (omega arith)
near PopEmbedding st (suc n) oe vi = near_counts st st (suc n) oe vi (suc n) oe vi (omega arith) (omega arith) (omega arith)
near Other st oi oe vi = near_counts st st oi oe vi oi oe vi (omega arith) (omega arith) (omega arith)

near-advance : (k : Kind) (m : Machine) → IsNear m (advance k m)
near-advance k m = near k m.stack m.overflow_isolates m.overflow_embeddings m.valid_isolates

-- the pass has come to place i: what it has, and what the machine would give of the rest, are all places
pub record IsPassedTo (p : ℕ) (cs : List Bidi) (i : ℕ) (m : Machine) (done : List (Option Kept)) : Type 0 where
  pub so_far : done ++ run p m (tokens (drop i cs)) ≡ explicit_places p cs
  pub embeddings : m.overflow_embeddings ≤ i
  pub overflow : m.overflow_isolates ≤ i
  pub valid : m.valid_isolates ≤ i

pub IsPassedTo-start : (p : ℕ) (cs : List Bidi) → IsPassedTo p cs 0 (initial p) []
IsPassedTo-start p cs = record { so_far = flat_places-is p cs; embeddings = omega arith; overflow = omega arith; valid = omega arith }

pub IsPassedTo-end : (p : ℕ) (cs : List Bidi) (i : ℕ) (m : Machine) (done : List (Option Kept)) → length cs ≤ i →
    IsPassedTo p cs i m done → done ≡ explicit_places p cs
IsPassedTo-end p cs i m done past s =
    let e : drop i cs ≡ [] = drop_all i cs past in
    sym (append-nil done) ∙ ap (λ ds. done ++ run p m (tokens ds)) (sym e) ∙ s.so_far

module _ (p : ℕ) (cs : List Bidi) (i : ℕ) (m : Machine) (done : List (Option Kept)) (s : IsPassedTo p cs i m done) (inside : i < length cs)
    (d : Bidi) (e : Control) (xs : List Control) (matched : xs ≡ controls_from 0 cs) where
  kind_is : (get_or xs i e).kind ≡ kind (base (content (nest (drop (suc i) cs))) == 1) (get_or cs i d)
  kind_is =
      ap (λ ys. (get_or ys i e).kind) matched ∙ ap (λ x. let y : Control = x in y.kind) (get_or-controls 0 cs i d e inside)

  run-step : run p m (tokens (drop i cs))
      ≡ place_of p (top (seen (get_or xs i e).kind m).stack) (get_or cs i d) ∷ run p (advance (get_or xs i e).kind m) (tokens (drop (suc i) cs))
  run-step =
      ap (λ ds. run p m (tokens ds)) (drop-cons cs i d inside)
      ∙ ap (λ k. place_of p (top (seen k m).stack) (get_or cs i d) ∷ run p (advance k m) (tokens (drop (suc i) cs))) (sym kind_is)

  pub IsPassedTo-on : (n : Machine) (x : Option Kept) → n ≡ advance (get_or xs i e).kind m →
      x ≡ place_of p (top (seen (get_or xs i e).kind m).stack) (get_or cs i d) → IsPassedTo p cs (suc i) n (done ++ x ∷ [])
  IsPassedTo-on n x after put =
      let near : IsNear m n = rw after (near-advance (get_or xs i e).kind m) in
      record {
        so_far = append_assoc done (x ∷ []) (run p n (tokens (drop (suc i) cs)))
            ∙ ap (λ y. done ++ y ∷ run p n (tokens (drop (suc i) cs))) put
            ∙ ap (λ k. done ++ place_of p (top (seen (get_or xs i e).kind m).stack) (get_or cs i d) ∷ run p k (tokens (drop (suc i) cs))) after
            ∙ ap (λ ys. done ++ ys) (sym run-step) ∙ s.so_far;
        embeddings = (let a = s.embeddings in let b = near.embeddings in omega arith);
        overflow = (let a = s.overflow in let b = near.overflow in omega arith);
        valid = (let a = s.valid in let b = near.valid in omega arith);
      }

-- a class that takes the top's direction does nothing
apart-no-other : (b : Bool) (c : Bidi) → is_apart c ≡ false → kind b c ≡ Other
unfolding is_removed is_isolate_control is_separator
apart-no-other b Rle h = absurd (false≢true (sym h))
apart-no-other b Lre h = absurd (false≢true (sym h))
apart-no-other b Rlo h = absurd (false≢true (sym h))
apart-no-other b Lro h = absurd (false≢true (sym h))
apart-no-other b Pdf h = absurd (false≢true (sym h))
apart-no-other b Lri h = absurd (false≢true (sym h))
apart-no-other b Rli h = absurd (false≢true (sym h))
apart-no-other b Fsi h = absurd (false≢true (sym h))
apart-no-other b Pdi h = absurd (false≢true (sym h))
apart-no-other b c h = refl

apart-no-place : (p : ℕ) (d : Direction) (c : Bidi) → is_apart c ≡ false → place_of p d c ≡ kept_under d c
unfolding is_removed is_isolate_control is_separator
apart-no-place p d Rle h = absurd (false≢true (sym h))
apart-no-place p d Lre h = absurd (false≢true (sym h))
apart-no-place p d Rlo h = absurd (false≢true (sym h))
apart-no-place p d Lro h = absurd (false≢true (sym h))
apart-no-place p d Pdf h = absurd (false≢true (sym h))
apart-no-place p d Bn h = absurd (false≢true (sym h))
apart-no-place p d B h = absurd (false≢true (sym h))
apart-no-place p d c h = refl

pub IsPassedTo-plain : (p : ℕ) (cs : List Bidi) (i : ℕ) (m : Machine) (done : List (Option Kept)) → IsPassedTo p cs i m done → i < length cs
    → (d : Bidi) (t : Direction) → t ≡ top m.stack → is_apart (get_or cs i d) ≡ false
    → IsPassedTo p cs (suc i) m (done ++ kept_under t (get_or cs i d) ∷ [])
IsPassedTo-plain p cs i m done s inside d t is apart =
    let c = get_or cs i d in
    let b = base (content (nest (drop (suc i) cs))) == 1 in
    let rest = run p m (tokens (drop (suc i) cs)) in
    record {
      so_far = append_assoc done (kept_under t c ∷ []) rest
          ∙ ap (λ t. done ++ kept_under t c ∷ rest) is
          ∙ ap (λ y. done ++ y ∷ rest) (sym (apart-no-place p (top m.stack) c apart))
          ∙ ap (λ k. done ++ place_of p (top (seen k m).stack) c ∷ run p (advance k m) (tokens (drop (suc i) cs))) (sym (apart-no-other b c apart))
          ∙ ap (λ ds. done ++ run p m (tokens ds)) (sym (drop-cons cs i d inside))
          ∙ s.so_far;
      embeddings = (let a = s.embeddings in omega arith);
      overflow = (let a = s.overflow in omega arith);
      valid = (let a = s.valid in omega arith);
    }

-- the same of places in a row
passed-by : (p : ℕ) (cs : List Bidi) (i n : ℕ) (m : Machine) (done : List (Option Kept)) (t : Direction) → IsPassedTo p cs i m done → t ≡ top m.stack
    → i + n ≤ length cs → ((k : ℕ) → i ≤ k → k < i + n → is_apart (get_or cs k L) ≡ false)
    → IsPassedTo p cs (i + n) m (done ++ map (kept_under t) (take n (drop i cs)))
passed-by p cs i zero m done t s is within simple =
    let here : i ≡ i + 0 = omega arith in
    subst (λ k. IsPassedTo p cs k m (done ++ [])) here (subst (IsPassedTo p cs i m) (sym (append-nil done)) s)
passed-by p cs i (suc n) m done t s is within simple =
    let inside : i + n < length cs = omega arith in
    let left : n < length (drop i cs) = omega (arith, length-drop i cs) in
    let next : suc (i + n) ≡ i + suc n = omega arith in
    let before = passed-by p cs i n m done t s is (omega arith) (λ k from to. simple k from (omega arith)) in
    let on = IsPassedTo-plain p cs (i + n) m (done ++ map (kept_under t) (take n (drop i cs))) before inside L t is (simple (i + n) (omega arith) (omega arith)) in
    let more : (done ++ map (kept_under t) (take n (drop i cs))) ++ kept_under t (get_or cs (i + n) L) ∷ [] ≡ done ++ map (kept_under t) (take (suc n) (drop i cs)) =
    append_assoc done (map (kept_under t) (take n (drop i cs))) (kept_under t (get_or cs (i + n) L) ∷ [])
    ∙ ap (λ ks. done ++ ks)
    (ap (λ c. map (kept_under t) (take n (drop i cs)) ++ kept_under t c ∷ []) (sym (get_or-drop i cs n L))
    ∙ sym (map-append (kept_under t) (take n (drop i cs)) (get_or (drop i cs) n L ∷ []))
    ∙ ap (map (kept_under t)) (sym (take_more (drop i cs) n L left) ∙ ap (λ k. take k (drop i cs)) (add-one n))) in
    subst (λ k. IsPassedTo p cs k m (done ++ map (kept_under t) (take (suc n) (drop i cs)))) next
    (subst (IsPassedTo p cs (suc (i + n)) m) more on)

pub IsPassedTo-row : (p : ℕ) (cs : List Bidi) (i end : ℕ) (m : Machine) (done : List (Option Kept)) (t : Direction) → IsPassedTo p cs i m done → t ≡ top m.stack
    → i ≤ end → end ≤ length cs → ((k : ℕ) → i ≤ k → k < end → is_apart (get_or cs k L) ≡ false)
    → IsPassedTo p cs end m (done ++ map (kept_under t) (slice_range cs i end))
IsPassedTo-row p cs i end m done t s is order within simple =
    let there : i + (end - i) ≡ end = omega arith in
    subst (λ k. IsPassedTo p cs k m (done ++ map (kept_under t) (slice_range cs i end))) there
    (passed-by p cs i (end - i) m done t s is (omega arith) (λ k from to. simple k from (omega arith)))
