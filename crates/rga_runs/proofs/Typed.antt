-- What the elements of characters that were typed one after the other are.
use Rattle.std.proofs.Common.{◌≡◌, ℕ, zero, suc, ◌<◌, ◌+◌, ◌*◌, ◌/◌, ◌^◌, Bool, true, false, cond, not, ◌||◌, List, [], ◌∷◌, ◌++◌, length, take, drop, Some, refl, sym, ap, ◌∙◌, arith}
use Rattle.std.specs.Prelude.{slice_get, set, get_or, filter}
use Rattle.rga_tree.specs.Spot.{seen}
use Rattle.std.specs.Ordering.{is_lt}
use Rattle.std.specs.List.{prefix_len}
use Rattle.bg_types.specs.Identifier.{Identifier, id_cmp, same_id}
use Rattle.bg_types.specs.declared.op.Place.{Place}
use Rattle.bg_types.specs.declared.op.Place.TheVariants.{After}
use Rattle.bg_types.proofs.Interface.{id_cmp-total, same_id-is, same_id-itself}
use Rattle.rga_tree.specs.declared.element.Element.{Element}
use Rattle.rga_tree.proofs.Interface.{later-apart, later-less, less_of, run_of, until, is_greater}
pub use Rattle.rga_tree.proofs.Interface.{later-more, later-none}
use Rattle.rga_tree.specs.Row.{has}
use Rattle.rga_runs.specs.Typed.{later, typed, parent_at, is_odd, bits_from, unset}
use Rattle.rga_runs.proofs.Bits.{twice, odd_up, half_up, odd_more, half_more}

parent-more : (id : Identifier) (p : Place) (k : ℕ) → parent_at (later id 1) (After id) k ≡ parent_at id p (suc k)
parent-more id p zero = λ i. After (sym (later-none id) i)
parent-more id p (suc k) = ap (λ q. After q) (later-more id 1 k (suc k) (omega arith))

pub typed-length : (id : Identifier) (p : Place) (m : ℕ) (cs : List ℕ) → length (typed id p m cs) ≡ length cs
typed-length id p m [] = refl
typed-length id p m (c ∷ cs) = ap suc (typed-length (later id 1) (After id) (m / 2) cs)

pub typed-get : (id : Identifier) (p : Place) (m : ℕ) (cs : List ℕ) (k d : ℕ) → k < length cs
    → slice_get (typed id p m cs) k ≡ Some (record { id = later id k; parent = parent_at id p k; ch = get_or cs k d; hidden = is_odd (bits_from k m) })
typed-get id p m [] k d w = absurd (omega arith)
typed-get id p m (c ∷ cs) zero d w = λ i. Some (record { id = sym (later-none id) i; parent = p; ch = c; hidden = is_odd m })
typed-get id p m (c ∷ cs) (suc k) d w =
    let more = later-more id 1 k (suc k) (omega arith) in
    typed-get (later id 1) (After id) (m / 2) cs k d (omega arith) ∙ (λ i. Some (record { id = more i; parent = parent-more id p k i; ch = get_or cs k d; hidden = is_odd (bits_from (suc k) m) }))

-- of which none is hidden
pub typed-run : (id : Identifier) (p : Place) (cs : List ℕ) → typed id p 0 cs ≡ run_of id p cs
typed-run id p [] = refl
typed-run id p (c ∷ cs) = ap (λ es. record { id = id; parent = p; ch = c; hidden = false } ∷ es) (typed-run (later id 1) (After id) cs)

-- parted

pub typed-take : (id : Identifier) (p : Place) (m : ℕ) (cs : List ℕ) (k : ℕ) → typed id p m (take k cs) ≡ take k (typed id p m cs)
typed-take id p m [] zero = refl
typed-take id p m [] (suc k) = refl
typed-take id p m (c ∷ cs) zero = refl
typed-take id p m (c ∷ cs) (suc k) = ap (λ es. record { id = id; parent = p; ch = c; hidden = is_odd m } ∷ es) (typed-take (later id 1) (After id) (m / 2) cs k)

pub typed-drop : (id : Identifier) (p : Place) (m : ℕ) (cs : List ℕ) (k : ℕ) → typed (later id k) (parent_at id p k) (bits_from k m) (drop k cs) ≡ drop k (typed id p m cs)
typed-drop id p m [] zero = refl
typed-drop id p m [] (suc k) = refl
typed-drop id p m (c ∷ cs) zero = λ i. typed (later-none id i) p m (c ∷ cs)
typed-drop id p m (c ∷ cs) (suc k) =
    let more = later-more id 1 k (suc k) (omega arith) in
    (λ i. typed (sym more i) (sym (parent-more id p k) i) (bits_from k (m / 2)) (drop k cs)) ∙ typed-drop (later id 1) (After id) (m / 2) cs k

pub typed-append : (id : Identifier) (p : Place) (m : ℕ) (cs ds : List ℕ) → typed id p m (cs ++ ds) ≡ typed id p m cs ++ typed (later id (length cs)) (parent_at id p (length cs)) (bits_from (length cs) m) ds
typed-append id p m [] ds = λ i. typed (sym (later-none id) i) p m ds
typed-append id p m (c ∷ cs) ds =
    let more = later-more id 1 (length cs) (suc (length cs)) (omega arith) in
    ap (λ es. record { id = id; parent = p; ch = c; hidden = is_odd m } ∷ es) (typed-append (later id 1) (After id) (m / 2) cs ds
    ∙ (λ i. typed (later id 1) (After id) (m / 2) cs ++ typed (more i) (parent-more id p (length cs) i) (bits_from (length cs) (m / 2)) ds))

-- which identifiers they have

pub typed-until : (id : Identifier) (p : Place) (m : ℕ) (cs : List ℕ) (k : ℕ) → k < length cs → until (later id k) (typed id p m cs) ≡ k
typed-until id p m [] k w = absurd (omega arith)
typed-until id p m (c ∷ cs) zero w = ap (λ q. until q (typed id p m (c ∷ cs))) (later-none id) ∙ ap (λ b. cond (not b) (1 + until id (typed (later id 1) (After id) (m / 2) cs)) 0) (same_id-itself id)
typed-until id p m (c ∷ cs) (suc k) w =
    let rest = typed (later id 1) (After id) (m / 2) cs in
    let more = later-more id 1 k (suc k) (omega arith) in
    let at : until (later id (suc k)) rest ≡ k = ap (λ q. until q rest) (sym more) ∙ typed-until (later id 1) (After id) (m / 2) cs k (omega arith) in
    ap (λ b. cond (not b) (1 + until (later id (suc k)) rest) 0) (later-apart id k) ∙ omega (arith, at)

pub typed-outside : (q id : Identifier) (p : Place) (m : ℕ) (cs : List ℕ) → ((k : ℕ) → k < length cs → q ≡ later id k → ⊥) → has q (typed id p m cs) ≡ false
typed-outside q id p m [] out = refl
typed-outside q id p m (c ∷ cs) out =
    by_test (same_id q id) refl (typed-outside q (later id 1) (After id) (m / 2) cs (λ k w is. out (suc k) (omega (arith, w)) (is ∙ later-more id 1 k (suc k) (omega arith)))) where
      by_test : (b : Bool) → same_id q id ≡ b → has q (typed (later id 1) (After id) (m / 2) cs) ≡ false → (same_id q id || has q (typed (later id 1) (After id) (m / 2) cs)) ≡ false
      by_test true is rest = absurd (out 0 (omega arith) (same_id-is q id is ∙ sym (later-none id)))
      by_test false is rest = ap (λ b. b || has q (typed (later id 1) (After id) (m / 2) cs)) is ∙ rest

-- they rise

pub typed-greater : (q id : Identifier) (p : Place) (m : ℕ) (cs : List ℕ) → is_lt (id_cmp q id) ≡ true → prefix_len (is_greater q) (typed id p m cs) ≡ length cs
typed-greater q id p m [] lt = refl
typed-greater q id p m (c ∷ cs) lt =
    let next : is_lt (id_cmp q (later id 1)) ≡ true = ap is_lt (id_cmp-total.trans q id (later id 1) (less_of (id_cmp q id) lt) (later-less id)) in
    let rest = typed-greater q (later id 1) (After id) (m / 2) cs next in
    ap (λ b. cond b (1 + prefix_len (is_greater q) (typed (later id 1) (After id) (m / 2) cs)) 0) lt ∙ omega (arith, rest)

pub typed-less : (q id : Identifier) (p : Place) (m : ℕ) (cs : List ℕ) (r : List Element) → 0 < length cs → is_lt (id_cmp q id) ≡ false → prefix_len (is_greater q) (typed id p m cs ++ r) ≡ 0
typed-less q id p m [] r some ge = absurd (omega arith)
typed-less q id p m (c ∷ cs) r some ge = ap (λ b. cond b (1 + prefix_len (is_greater q) (typed (later id 1) (After id) (m / 2) cs ++ r)) 0) ge

-- what is hidden

pub typed_seen : (id : Identifier) (p : Place) (m : ℕ) (cs : List ℕ) → seen (typed id p m cs) ≡ unset (length cs) m
typed_seen id p m [] = refl
typed_seen id p m (c ∷ cs) =
    let rest = typed_seen (later id 1) (After id) (m / 2) cs in
    let es = typed (later id 1) (After id) (m / 2) cs in
    let e : Element = record { id = id; parent = p; ch = c; hidden = is_odd m } in
    let f = filter (λ (z : Element). not z.hidden) es in
    elim (is_odd m) as (λ b. length (cond (not b) (e ∷ f) f) ≡ cond b 0 1 + unset (length cs) (m / 2)) [ true ↦ omega (arith, rest) | false ↦ omega (arith, rest) ]

-- with character k hidden, which was visible
pub typed_hidden : (id : Identifier) (p : Place) (m : ℕ) (cs : List ℕ) (k : ℕ) (d : Element) → k < length cs → is_odd (bits_from k m) ≡ false
    → typed id p (m + 2 ^ k) cs ≡ set (typed id p m cs) k (record (get_or (typed id p m cs) k d) { hidden = true })
typed_hidden id p m [] k d less h = absurd (omega arith)
typed_hidden id p m (c ∷ cs) zero d less h =
    λ i. record { id = id; parent = p; ch = c; hidden = odd_up m h i } ∷ typed (later id 1) (After id) (half_up m h i) cs
typed_hidden id p m (c ∷ cs) (suc k) d less h =
    let double : m + 2 ^ suc k ≡ m + 2 * 2 ^ k = ap (λ x. m + x) (twice k) in
    let low : is_odd (m + 2 ^ suc k) ≡ is_odd m = ap is_odd double ∙ odd_more m (2 ^ k) in
    let half : (m + 2 ^ suc k) / 2 ≡ m / 2 + 2 ^ k = ap (λ x. x / 2) double ∙ half_more m (2 ^ k) in
    (λ i. record { id = id; parent = p; ch = c; hidden = low i } ∷ typed (later id 1) (After id) (half i) cs)
    ∙ ap (λ es. record { id = id; parent = p; ch = c; hidden = is_odd m } ∷ es) (typed_hidden (later id 1) (After id) (m / 2) cs k d (omega arith) h)
