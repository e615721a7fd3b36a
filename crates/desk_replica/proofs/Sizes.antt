-- Of two sets or maps by identifier, that with fewer identifiers is not longer.
use Rattle.std.proofs.Common.{◌≡◌, ◌≤◌, ◌<◌, ◌+◌, ◌-◌, ℕ, zero, suc, Bool, true, false, not, cond, List, [], ◌∷◌, length, Option, None, refl, sym, ap, ◌∙◌, arith, is_some, true≢false}
use Rattle.std.specs.Prelude.{◌&&◌, ◌||◌, map as each}
use Rattle.std.specs.List.{list_any}
use Rattle.std.specs.FinMap as map
use Rattle.std.specs.FinSet as set
use Rattle.bg_types.specs.Identifier.{Identifier, id_cmp, same_id}
use Rattle.bg_types.proofs.Interface.{id_cmp-total, id_cmp-exact, same_id-itself}

pub record Counted (A : Type 0) : Type 0 where
  pub has : A → Identifier → Bool
  pub size : A → ℕ
  pub cut : A → Identifier → A
  pub has_cut : (a : A) (x q : Identifier) → has (cut a x) q ≡ (not (same_id q x) && has a q)
  pub size_cut : (a : A) (x : Identifier) → has a x ≡ true → size (cut a x) + 1 ≡ size a
  pub pick : (a : A) (k : ℕ) → size a ≡ suc k → (x : Identifier) × (has a x ≡ true)

keep : (c a b : Bool) → (c && a) ≡ true → (a ≡ true → b ≡ true) → (c && b) ≡ true
keep true a b h f = f h
keep false a b h f = h

pub fewer : {A B : Type 0} (ca : Counted A) (cb : Counted B) (k : ℕ) (a : A) (b : B) → ca.size a ≡ k → ((q : Identifier) → ca.has a q ≡ true → cb.has b q ≡ true) → k ≤ cb.size b
fewer ca cb zero a b e sub = omega arith
fewer ca cb (suc k) a b e sub =
    let x = ca.pick a k e in
    let la = ca.size_cut a x.0 x.1 in
    let lb = cb.size_cut b x.0 (sub x.0 x.1) in
    let rest = fewer ca cb k (ca.cut a x.0) (cb.cut b x.0) (omega arith)
    (λ q h. cb.has_cut b x.0 q ∙ keep (not (same_id q x.0)) (ca.has a q) (cb.has b q) (sym (ca.has_cut a x.0 q) ∙ h) (sub q)) in
    omega arith

module _ {X : Type 0} where
  pub cut_some : (b : Bool) (o : Option X) → is_some (cond b None o) ≡ (not b && is_some o)
  cut_some true o = refl
  cut_some false o = refl

  pub map_pick : (m : map.FinMap id_cmp X) (es : List (Identifier × X)) (k : ℕ) → map.entries m ≡ es → map.len m ≡ suc k → (x : Identifier) × (map.contains_key m x ≡ true)
  map_pick m [] k e h = absurd (omega (arith, map.len-entries m, ap length e))
  map_pick m (x ∷ es) k e h = (x.0, map.contains_key-keys m x.0 ∙ ap (λ l. list_any (same_id x.0) (each (λ (y : Identifier × X). y.0) l)) e ∙ ap (λ b. b || list_any (same_id x.0) (each (λ (y : Identifier × X). y.0) es)) (same_id-itself x.0))

  pub map_positive : (m : map.FinMap id_cmp X) (k : ℕ) (x : Identifier) → map.len m ≡ k → map.contains_key m x ≡ true → 0 < map.len m
  map_positive m zero x e h = absurd (true≢false (sym h ∙ ap (λ n. map.contains_key n x) (map.empty_of_len m e) ∙ ap is_some (map.get-empty id_cmp x)))
  map_positive m (suc k) x e h = omega arith

  abbrev pub of_map : Counted (map.FinMap id_cmp X)
  of_map = record {
    has = λ m q. map.contains_key m q;
    size = λ m. map.len m;
    cut = λ m x. map.remove m x;
    has_cut = λ m x q. ap is_some (map.get-remove id_cmp-total m x q) ∙ cut_some (same_id q x) (map.get m q);
    size_cut = λ m x h.
        let l = map.len-remove id_cmp-total m x ∙ ap (λ b. cond b (map.len m - 1) (map.len m)) h in
        let p = map_positive m (map.len m) x refl h in
        omega arith;
    pick = λ m k h. map_pick m (map.entries m) k refl h;
  }

pub set_pick : (s : set.FinSet id_cmp) (xs : List Identifier) (k : ℕ) → set.items s ≡ xs → set.len s ≡ suc k → (x : Identifier) × (set.contains s x ≡ true)
set_pick s [] k e h =
    let nothing : s ≡ set.empty = set.same_set id_cmp-total id_cmp-exact s set.empty (λ q. set.contains-items s q ∙ ap (list_any (same_id q)) e ∙ sym (set.contains-empty id_cmp q)) in
    absurd (omega (arith, ap set.len nothing, set.len-empty id_cmp))
set_pick s (x ∷ xs) k e h = (x, set.contains-items s x ∙ ap (list_any (same_id x)) e ∙ ap (λ b. b || list_any (same_id x) xs) (same_id-itself x))

pub set_positive : (s : set.FinSet id_cmp) (k : ℕ) (x : Identifier) → set.len s ≡ k → set.contains s x ≡ true → 0 < set.len s
set_positive s zero x e h = absurd (true≢false (sym h ∙ ap (λ n. set.contains n x) (set.empty_of_len s e) ∙ set.contains-empty id_cmp x))
set_positive s (suc k) x e h = omega arith

abbrev pub of_set : Counted (set.FinSet id_cmp)
of_set = record {
  has = λ s q. set.contains s q;
  size = λ s. set.len s;
  cut = λ s x. set.remove s x;
  has_cut = λ s x q. set.contains-remove id_cmp-total s x q;
  size_cut = λ s x h.
      let l = set.len-remove id_cmp-total s x ∙ ap (λ b. cond b (set.len s - 1) (set.len s)) h in
      let p = set_positive s (set.len s) x refl h in
      omega arith;
  pick = λ s k h. set_pick s (set.items s) k refl h;
}

pub len_map-map : {X Y : Type 0} (m : map.FinMap id_cmp X) (n : map.FinMap id_cmp Y) → ((q : Identifier) → map.contains_key m q ≡ true → map.contains_key n q ≡ true) → map.len m ≤ map.len n
len_map-map m n sub = fewer of_map of_map (map.len m) m n refl sub

pub len_set-map : {Y : Type 0} (s : set.FinSet id_cmp) (n : map.FinMap id_cmp Y) → ((q : Identifier) → set.contains s q ≡ true → map.contains_key n q ≡ true) → set.len s ≤ map.len n
len_set-map s n sub = fewer of_set of_map (set.len s) s n refl sub

pub len_set-set : (s t : set.FinSet id_cmp) → ((q : Identifier) → set.contains s q ≡ true → set.contains t q ≡ true) → set.len s ≤ set.len t
len_set-set s t sub = fewer of_set of_set (set.len s) s t refl sub
