-- The keys of a cache after its calls.
use Rattle.std.proofs.Common.{◌+◌, zero, suc, ◌-◌, ℕ, ◌≡◌, refl, ap, sym, ◌∙◌, Option, Some, None, Bool, true, false, List, [], ◌∷◌, rules, arith, map, length, ◌≤◌, ◌<◌, take, All, eq-eqb}
use Rattle.std.proofs.lemmas.List.{take_all}
use Rattle.std.proofs.lemmas.List.{length-map}
use Rattle.std.proofs.lemmas.List.Elements.{All-head, All-tail}
use Rattle.std.specs.Prelude.{is_some, ◌&&◌}
use Rattle.std.specs.Option.{option_map_or}
use Rattle.std.specs.Map.{lookup, lookup_entry, remove_entry}
use Rattle.lru.specs.LruCache.{LruCache, promoted, put_entries}
use Rattle.lru.proofs.CallerLemmas.{Contains-lookup_entry}
use Rattle.view_cache.specs.declared.key.Key.{Key}
use Rattle.view_cache.specs.Keys.{ParagraphKey, said, same_key}
use Rattle.view_cache.specs.Uses.{is_kept, without, used}
use Rattle.view_cache.specs.contracts.key.KeyPartialEq.TheImpl as key_eq
use Rattle.bg_types.proofs.Interface.{two_cases}

-- equal keys say the same
pub eq-said : (a b : Key) → (key_eq.eq-value).it a b ≡ true → said a ≡ said b
eq-said a b h = search rules

-- and their hashes begin alike
pub eq-hashed : (a b : Key) → (key_eq.eq-value).it a b ≡ true → a.hash_key ≡ b.hash_key
eq-hashed a b h = search rules

-- the cache's test is `same_key`, among keys whose hashes begin alike
same-is : (a b : Key) → b.hash_key ≡ a.hash_key → (key_eq.eq-value).it a b ≡ same_key (said a) (said b)
unfolding same_key
same-is a b h = ap (λ t. t && same_key (said a) (said b)) (eq-eqb a.hash_key b.hash_key (sym h))

-- ---- lists of keys

is_kept-hit : (s k : ParagraphKey) (ks : List ParagraphKey) → same_key s k ≡ true → is_kept s (k ∷ ks) ≡ true
is_kept-hit s k ks h = rw (h, is_kept)

is_kept-miss : (s k : ParagraphKey) (ks : List ParagraphKey) → same_key s k ≡ false → is_kept s (k ∷ ks) ≡ is_kept s ks
is_kept-miss s k ks h = rw (h, is_kept)

pub without-hit : (s k : ParagraphKey) (ks : List ParagraphKey) → same_key s k ≡ true → without s (k ∷ ks) ≡ ks
without-hit s k ks h = rw (h, without)

without-miss : (s k : ParagraphKey) (ks : List ParagraphKey) → same_key s k ≡ false → without s (k ∷ ks) ≡ k ∷ without s ks
without-miss s k ks h = rw (h, without)

pub take-cons : (n : ℕ) (x : ParagraphKey) (l : List ParagraphKey) → 0 < n → take n (x ∷ l) ≡ x ∷ take (n - 1) l
take-cons zero x l h = absurd (omega arith)
take-cons (suc m) x l h = let e : m ≡ suc m - 1 = omega arith in ap (λ j. x ∷ take j l) e

cons_eq : {A : Type 0} {x y : A} {xs ys : List A} → x ≡ y → xs ≡ ys → (x ∷ xs) ≡ (y ∷ ys)
cons_eq e f = cc

-- ---- the keys of entries

abbrev pub keys : {V : Type 0} → List (Key × V) → List ParagraphKey
keys es = map (λ e. said e.0) es

keys-take : {V : Type 0} (n : ℕ) (es : List (Key × V)) → keys (take n es) ≡ take n (keys es)
keys-take zero es = refl
keys-take (suc n) [] = refl
keys-take (suc n) (e ∷ es) = ap (λ l. said e.0 ∷ l) (keys-take n es)

-- the two look-ups find the same
pub found-together : {V : Type 0} (test : Key → Bool) (es : List (Key × V)) → is_some (lookup test es) ≡ is_some (lookup_entry test es)
found-together test [] = refl
found-together test (e ∷ es) = two_cases (test e.0)
    (λ t. let a : lookup test (e ∷ es) ≡ Some e.1 = rw (t, lookup) in let b : lookup_entry test (e ∷ es) ≡ Some e = rw (t, lookup_entry) in ap is_some a ∙ sym (ap is_some b))
    (λ t. let a : lookup test (e ∷ es) ≡ lookup test es = rw (t, lookup) in let b : lookup_entry test (e ∷ es) ≡ lookup_entry test es = rw (t, lookup_entry) in
    ap is_some a ∙ found-together test es ∙ sym (ap is_some b))

-- the test tells which of these keys say what `s` says
abbrev Tells : {V : Type 0} → (Key → Bool) → ParagraphKey → List (Key × V) → Type 0
Tells test s [] = Unit {0}
Tells test s (e ∷ es) = (test e.0 ≡ same_key s (said e.0)) × Tells test s es

module _ {V : Type 0} (test : Key → Bool) (s : ParagraphKey) where
  remove-hit : (e : Key × V) (es : List (Key × V)) → test e.0 ≡ true → remove_entry test (e ∷ es) ≡ es
  remove-hit e es h = rw (h, remove_entry)

  remove-miss : (e : Key × V) (es : List (Key × V)) → test e.0 ≡ false → remove_entry test (e ∷ es) ≡ e ∷ remove_entry test es
  remove-miss e es h = rw (h, remove_entry)

  -- a removal removes the key
  keys-remove_entry : (es : List (Key × V)) → Tells test s es → keys (remove_entry test es) ≡ without s (keys es)
  keys-remove_entry [] same = refl
  keys-remove_entry (e ∷ es) same = two_cases (same_key s (said e.0))
      (λ h. ap keys (remove-hit e es (same.0 ∙ h)) ∙ sym (without-hit s (said e.0) (keys es) h))
      (λ h. ap keys (remove-miss e es (same.0 ∙ h)) ∙ ap (λ l. said e.0 ∷ l) (keys-remove_entry es same.1) ∙ sym (without-miss s (said e.0) (keys es) h))

  -- where nothing says the same, nothing goes
  without-none : (es : List (Key × V)) → Tells test s es → lookup_entry test es ≡ None → without s (keys es) ≡ keys es
  without-none [] same h = refl
  without-none (e ∷ es) same h = two_cases (same_key s (said e.0))
      (λ t. let hit : lookup_entry test (e ∷ es) ≡ Some e = rw (same.0 ∙ t, lookup_entry) in cc)
      (λ t. let miss : lookup_entry test (e ∷ es) ≡ lookup_entry test es = rw (same.0 ∙ t, lookup_entry) in
      without-miss s (said e.0) (keys es) t ∙ ap (λ l. said e.0 ∷ l) (without-none es same.1 (sym miss ∙ h)))

  -- where a key says the same, one goes
  length-without : (es : List (Key × V)) (e : Key × V) → Tells test s es → lookup_entry test es ≡ Some e → length (without s (keys es)) + 1 ≤ length es
  length-without [] e same h = cc
  length-without (f ∷ es) e same h = two_cases (same_key s (said f.0))
      (λ t. let n : length (keys es) ≡ length es = search (rules, length-map) in rw (without-hit s (said f.0) (keys es) t) (omega arith))
      (λ t. let miss : lookup_entry test (f ∷ es) ≡ lookup_entry test es = rw (same.0 ∙ t, lookup_entry) in
      let ih = length-without es e same.1 (sym miss ∙ h) in rw (without-miss s (said f.0) (keys es) t) (omega arith))

  -- a look-up finds what is kept
  is_kept-by : (es : List (Key × V)) → Tells test s es → is_some (lookup test es) ≡ is_kept s (keys es)
  is_kept-by [] same = refl
  is_kept-by (e ∷ es) same = two_cases (same_key s (said e.0))
      (λ t. let hit : lookup test (e ∷ es) ≡ Some e.1 = rw (same.0 ∙ t, lookup) in
      ap is_some hit ∙ sym (is_kept-hit s (said e.0) (keys es) t))
      (λ t. let miss : lookup test (e ∷ es) ≡ lookup test es = rw (same.0 ∙ t, lookup) in
      ap is_some miss ∙ is_kept-by es same.1 ∙ sym (is_kept-miss s (said e.0) (keys es) t))

  -- the key that is found goes to the front, and none is cut off
  moved-to-front : (tells : (e : Key) → test e ≡ true → s ≡ said e) (cap : ℕ) (es : List (Key × V)) (e : Key × V) → Tells test s es →
      0 < cap → length es ≤ cap → lookup_entry test es ≡ Some e →
      said e.0 ∷ keys (remove_entry test es) ≡ used cap s (keys es)
  moved-to-front tells cap es e same some fits h =
      let hit = Contains-lookup_entry test es e h in
      let shorter = length-without es e same h in
      cons_eq (sym (tells e.0 hit.1)) (keys-remove_entry es same ∙ sym (take_all (cap - 1) (without s (keys es)) (omega arith)))
      ∙ sym (take-cons cap s (without s (keys es)) some)

module _ {V : Type 0} where
  -- the keys of these entries and this key are hashed alike
  abbrev pub HashedAs : Key → List (Key × V) → Type 0
  HashedAs k es = All (λ (e : Key × V). e.0.hash_key ≡ k.hash_key) es

  tells : (k : Key) (es : List (Key × V)) → HashedAs k es → Tells ((key_eq.eq-value).it k) (said k) es
  tells k [] hashed = tt
  tells k (e ∷ es) hashed =
      let P : Key × V → Type 0 = λ f. f.0.hash_key ≡ k.hash_key in
      (same-is k e.0 (All-head P e es hashed), tells k es (All-tail P e es hashed))

  pub is_kept-lookup : (k : Key) (es : List (Key × V)) → HashedAs k es → is_some (lookup ((key_eq.eq-value).it k) es) ≡ is_kept (said k) (keys es)
  is_kept-lookup k es hashed = is_kept-by ((key_eq.eq-value).it k) (said k) es (tells k es hashed)

  -- after `put` the keys are those of one more use
  keys-after : (c : LruCache Key V) (k : Key) (v : V) (o : Option (Key × V)) → HashedAs k c.entries → 0 < c.cap → length c.entries ≤ c.cap →
      lookup_entry ((key_eq.eq-value).it k) c.entries ≡ o →
      keys (option_map_or (λ e. (e.0, v) ∷ remove_entry ((key_eq.eq-value).it k) c.entries) o ((k, v) ∷ take (c.cap - 1) c.entries))
      ≡ used c.cap (said k) (keys c.entries)
  keys-after c k v None hashed some fits h =
      ap (λ l. said k ∷ l) (keys-take (c.cap - 1) c.entries)
      ∙ ap (λ ks. said k ∷ take (c.cap - 1) ks) (sym (without-none ((key_eq.eq-value).it k) (said k) c.entries (tells k c.entries hashed) h))
      ∙ sym (take-cons c.cap (said k) (without (said k) (keys c.entries)) some)
  keys-after c k v (Some e) hashed some fits h =
      moved-to-front ((key_eq.eq-value).it k) (said k) (eq-said k) c.cap c.entries e (tells k c.entries hashed) some fits h

  pub keys-put : (c : LruCache Key V) (k : Key) (v : V) → HashedAs k c.entries → 0 < c.cap → length c.entries ≤ c.cap →
      keys (put_entries (key_eq.eq-value).it c k v) ≡ used c.cap (said k) (keys c.entries)
  keys-put c k v hashed some fits = keys-after c k v (lookup_entry ((key_eq.eq-value).it k) c.entries) hashed some fits refl

  -- a use that finds the key gives the same keys
  promoted-after : (c : LruCache Key V) (k : Key) (o : Option (Key × V)) → HashedAs k c.entries → 0 < c.cap → length c.entries ≤ c.cap →
      lookup_entry ((key_eq.eq-value).it k) c.entries ≡ o → is_some o ≡ true →
      keys (option_map_or (λ e. e ∷ remove_entry ((key_eq.eq-value).it k) c.entries) o c.entries) ≡ used c.cap (said k) (keys c.entries)
  promoted-after c k None hashed some fits h there = cc
  promoted-after c k (Some e) hashed some fits h there =
      moved-to-front ((key_eq.eq-value).it k) (said k) (eq-said k) c.cap c.entries e (tells k c.entries hashed) some fits h

  pub keys-promoted : (c : LruCache Key V) (k : Key) → HashedAs k c.entries → 0 < c.cap → length c.entries ≤ c.cap →
      is_some (lookup ((key_eq.eq-value).it k) c.entries) ≡ true →
      keys (promoted ((key_eq.eq-value).it k) c.entries) ≡ used c.cap (said k) (keys c.entries)
  keys-promoted c k hashed some fits there =
      promoted-after c k (lookup_entry ((key_eq.eq-value).it k) c.entries) hashed some fits refl
      (sym (found-together ((key_eq.eq-value).it k) c.entries) ∙ there)

  -- and one that finds nothing leaves the entries as they were
  unmoved : (test : Key → Bool) (es : List (Key × V)) (o : Option (Key × V)) → is_some o ≡ false → option_map_or (λ e. e ∷ remove_entry test es) o es ≡ es
  unmoved test es None h = refl
  unmoved test es (Some e) h = cc

  pub promoted-none : (test : Key → Bool) (es : List (Key × V)) → is_some (lookup test es) ≡ false → promoted test es ≡ es
  promoted-none test es h = unmoved test es (lookup_entry test es) (sym (found-together test es) ∙ h)
