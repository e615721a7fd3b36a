-- What is kept stays right.
use Rattle.std.proofs.Common.{◌≡◌, ◌≤◌, ◌-◌, ◌^◌, [], ◌∷◌, ℕ, Bool, true, false, not, List, Some, None, All, Contains, flat_map, length, map, take, inl, inr, refl, sym, ap, ap₂, subst, ◌∙◌, rules, arith}
use Rattle.std.proofs.lemmas.List.{length-map, length-take}
use Rattle.std.proofs.lemmas.List.Elements.{All-nil, All-head, All-map, All-contains, All-contains_itself}
use Rattle.std.specs.Prelude.{is_some, slice_get}
use Rattle.std.specs.Map.{lookup}
use Rattle.lru.specs.LruCache.{LruCache, lru_cache, promoted, put_entries}
use Rattle.lru.proofs.CallerLemmas.{Contains-promoted, Contains-put_entries}
use Rattle.unicode_tables.specs.Tables.{TableValues}
use Rattle.cell_grid.specs.Print.{printed_paragraph, row_text}
use Rattle.cell_grid.specs.Rows.{DrawnRow, rows_of}
use Rattle.cell_grid.proofs.Interface.{take-whole, All-unmap}
use Rattle.view_cache.specs.declared.key.Key.{Key}
use Rattle.view_cache.specs.declared.laid.Laid.{Laid}
use Rattle.view_cache.specs.Keys.{ParagraphKey, said}
use Rattle.view_cache.specs.Uses.{is_kept, without, used}
use Rattle.view_cache.specs.KeptParagraphs.{KeptParagraph, KeptParagraphs, kept_keys, nothing_kept, IsLaidBy, AreLaid, IsNewest, IsUse}
use Rattle.view_cache.specs.Kept.{entry_said, laid_said, IsHashedBy, IsKept}
use Rattle.view_cache.specs.Drawings.{KeptView}
use Rattle.view_cache.specs.contracts.key.KeyPartialEq.TheImpl as key_eq
use Rattle.view_cache.proofs.Uses.{same-itself}
use Rattle.view_cache.proofs.Keys.{eq-said, eq-hashed, keys, take-cons, without-hit, is_kept-lookup, keys-put, keys-promoted, promoted-none}

abbrev pub Cache : Type 0
Cache = LruCache Key Laid

abbrev Entry : Type 0
Entry = Key × Laid

all_from : (P : Entry → Type 0) (xs : List Entry) → ((x : Entry) → Contains xs x → P x) → All P xs
all_from P xs f = λ k d h. f _ (All-contains_itself xs k d h)

-- what holds of all entries still does after a use that finds its key
promoted-all : (P : Entry → Type 0) (k : Key) (es : List Entry) → All P es → All P (promoted ((key_eq.eq-value).it k) es)
promoted-all P k es all = all_from P (promoted ((key_eq.eq-value).it k) es) (λ x c. All-contains P es x all (Contains-promoted ((key_eq.eq-value).it k) es x c))

-- and after one that puts an entry, if it holds of a key equal to the new one with the new rows
put-all : (P : Entry → Type 0) (c : Cache) (k : Key) (v : Laid) → All P c.entries
    → ((x : Entry) → x.1 ≡ v → x.0 ≡ k → P x) → ((x : Entry) → x.1 ≡ v → (key_eq.eq-value).it k x.0 ≡ true → P x)
    → All P (put_entries (key_eq.eq-value).it c k v)
put-all P c k v all itself equal =
    all_from P (put_entries (key_eq.eq-value).it c k v) (λ x h.
    elim (Contains-put_entries (key_eq.eq-value).it c k v x h) [
      | inl old ↦ All-contains P c.entries x all old
      | inr p ↦ elim p.1 [
        | inl same ↦ itself x p.0 same
        | inr w ↦ equal x p.0 w.2
      ]
    ])

put-hashed : (hash_key : ℕ) (c : Cache) (k : Key) (v : Laid) → k.hash_key ≡ hash_key → All (IsHashedBy hash_key) c.entries → All (IsHashedBy hash_key) (put_entries (key_eq.eq-value).it c k v)
put-hashed hash_key c k v is all =
    put-all (IsHashedBy hash_key) c k v all (λ x value same. ap (λ (j : Key). j.hash_key) same ∙ is) (λ x value same. sym (eq-hashed k x.0 same) ∙ is)

used-fits : (cap : ℕ) (s : ParagraphKey) (ks : List ParagraphKey) (es : List Entry) → keys es ≡ used cap s ks → length es ≤ cap
used-fits cap s ks es h =
    let a : length (keys es) ≡ length es = search (rules, length-map) in
    let b : length (keys es) ≡ length (take cap (s ∷ without s ks)) = ap length h in
    let d = length-take cap (s ∷ without s ks) in
    omega (arith, d)

module _ (tables : TableValues) where
  -- what an entry has is its key's
  abbrev IsLaid : Entry → Type 0
  IsLaid e = IsLaidBy tables (entry_said e)

  put-laid : (c : Cache) (k : Key) (v : Laid) → IsLaidBy tables (said k, laid_said v) → All IsLaid c.entries → All IsLaid (put_entries (key_eq.eq-value).it c k v)
  put-laid c k v new all =
      put-all IsLaid c k v all
      (λ x value same. subst (IsLaidBy tables) (sym (ap₂ (λ (j : Key) (l : Laid). (said j, laid_said l)) same value)) new)
      (λ x value same. subst (IsLaidBy tables) (ap₂ (λ (s : ParagraphKey) (l : Laid). (s, laid_said l)) (eq-said k x.0 same) (sym value)) new)

  -- what one use does to a cache
  pub record IsUsed (hash_key : ℕ) (c : Cache) (k : Key) (d : Cache) : Type 0 where
    pub kept : IsKept hash_key d
    pub cap : d.cap ≡ c.cap
    pub keys : keys d.entries ≡ used c.cap (said k) (keys c.entries)
    pub laid : All IsLaid c.entries → All IsLaid d.entries

  module _ (hash_key : ℕ) (c d : Cache) (k : Key) (hashed : k.hash_key ≡ hash_key) (kept : IsKept hash_key c) where
    alike : All (λ (e : Entry). e.0.hash_key ≡ k.hash_key) c.entries
    alike = subst (λ h. All (λ (e : Entry). e.0.hash_key ≡ h) c.entries) (sym hashed) kept.hashed

    is-used : (es : List Entry) → All (IsHashedBy hash_key) es → (All IsLaid c.entries → All IsLaid es) → keys es ≡ used c.cap (said k) (keys c.entries) → IsUsed hash_key c k (lru_cache es c.cap)
    is-used es all laid ks = record {
      kept = record { hashed = all; fits = used-fits c.cap (said k) (keys c.entries) es ks; some = kept.some };
      cap = refl;
      keys = ks;
      laid = laid;
    }

    pub used-promoted : d ≡ lru_cache (promoted ((key_eq.eq-value).it k) c.entries) c.cap → is_some (lookup ((key_eq.eq-value).it k) c.entries) ≡ true → IsUsed hash_key c k d
    used-promoted e there =
        subst (IsUsed hash_key c k) (sym e)
        (is-used (promoted ((key_eq.eq-value).it k) c.entries) (promoted-all (IsHashedBy hash_key) k c.entries kept.hashed) (promoted-all IsLaid k c.entries)
        (keys-promoted c k alike kept.some kept.fits there))

    pub used-put : (v : Laid) → d ≡ lru_cache (put_entries (key_eq.eq-value).it c k v) c.cap → IsLaidBy tables (said k, laid_said v) → IsUsed hash_key c k d
    used-put v e right =
        subst (IsUsed hash_key c k) (sym e)
        (is-used (put_entries (key_eq.eq-value).it c k v) (put-hashed hash_key c k v hashed kept.hashed) (put-laid c k v right)
        (keys-put c k v alike kept.some kept.fits))

    -- a look-up that found nothing left all as it was
    pub unmoved : (m : Cache) → m ≡ lru_cache (promoted ((key_eq.eq-value).it k) c.entries) c.cap → is_some (lookup ((key_eq.eq-value).it k) c.entries) ≡ false → m ≡ c
    unmoved m e none = e ∙ ap (λ es. lru_cache es c.cap) (promoted-none ((key_eq.eq-value).it k) c.entries none)

    pub used-missed : (m : Cache) (v : Laid) → m ≡ lru_cache (promoted ((key_eq.eq-value).it k) c.entries) c.cap → is_some (lookup ((key_eq.eq-value).it k) c.entries) ≡ false
        → d ≡ lru_cache (put_entries (key_eq.eq-value).it m k v) m.cap → IsLaidBy tables (said k, laid_said v) → IsUsed hash_key c k d
    used-missed m v e none put right = used-put v (put ∙ ap (λ (n : Cache). lru_cache (put_entries (key_eq.eq-value).it n k v) n.cap) (unmoved m e none)) right

-- rows that were laid out, and print nothing yet
pub laid-right : (tables : TableValues) (s key : ParagraphKey) (l : KeptParagraph) → s ≡ key → l ≡ record { rows = rows_of tables key.width key.base key.text; print = None } → IsLaidBy tables (s, l)
laid-right tables s key l says is = subst (IsLaidBy tables) (sym (ap₂ (λ (t : ParagraphKey) (m : KeptParagraph). (t, m)) says is)) (record { rows = refl; print = tt })

-- what rows of a paragraph print in its text
pub print-made : (tables : TableValues) (key : ParagraphKey) (text : List ℕ) (rows : List DrawnRow) (print : List ℕ) → print ≡ flat_map (row_text tables text) rows → text ≡ key.text
    → rows ≡ rows_of tables key.width key.base key.text → print ≡ printed_paragraph tables key.width key.base key.text
print-made tables key text rows print is own laid = is ∙ ap (λ t. flat_map (row_text tables t) rows) own ∙ ap (flat_map (row_text tables key.text)) laid

-- a use of the newest key changes no key
used-newest : (room : ℕ) (key : ParagraphKey) (earlier ks : List ParagraphKey) → ks ≡ key ∷ earlier → length ks ≤ room → used room key ks ≡ ks
used-newest room key earlier ks is fits =
    ap (λ (l : List ParagraphKey). take room (key ∷ without key l)) is
    ∙ ap (λ (l : List ParagraphKey). take room (key ∷ l)) (without-hit key key earlier (same-itself key))
    ∙ ap (take room) (sym is)
    ∙ take-whole ks room fits

-- ---- what a contract sees of a cache

abbrev pub kept_of : (hash_key : ℕ) → Cache → KeptParagraphs
kept_of hash_key c = record { room = c.cap; hash_key = hash_key; entries = map entry_said c.entries }

keys-said : (es : List Entry) → map (λ (e : ParagraphKey × KeptParagraph). e.0) (map entry_said es) ≡ keys es
keys-said [] = refl
keys-said (e ∷ es) = ap (λ l. said e.0 ∷ l) (keys-said es)

-- an empty cache with some room is kept right, and nothing is kept
module _ (c : Cache) (room hash_key : ℕ) (is : c ≡ lru_cache [] room) where
  pub empty-kept : 1 ≤ room → IsKept hash_key c
  empty-kept some = subst (IsKept hash_key) (sym is) (record { hashed = All-nil (IsHashedBy hash_key); fits = omega arith; some = some })

  pub empty-nothing : kept_of hash_key c ≡ nothing_kept room hash_key
  empty-nothing = ap (kept_of hash_key) is

-- an empty cache that is given this room
pub resized-empty : (c d : Cache) (n room : ℕ) → c ≡ lru_cache [] (2 ^ 64 - 1) → d ≡ lru_cache (take n c.entries) n → n ≡ room → d ≡ lru_cache [] room
resized-empty c d n room none resized is =
    resized ∙ ap (λ (e : Cache). lru_cache (take n e.entries) n) none ∙ ap (λ es. lru_cache es n) (take-whole [] n (omega arith)) ∙ ap (λ m. lru_cache [] m) is

module _ (tables : TableValues) (hash_key : ℕ) (c d : Cache) (old : KeptParagraphs) (is : kept_of hash_key c ≡ old) (k : Key) (key : ParagraphKey) (says : said k ≡ key)
    (hashed : k.hash_key ≡ hash_key) (kept : IsKept hash_key c) (u : IsUsed tables hash_key c k d) where
  keys-used : kept_keys (kept_of hash_key d) ≡ used old.room key (kept_keys old)
  keys-used =
      keys-said d.entries ∙ u.keys
      ∙ ap (λ s. used c.cap s (keys c.entries)) says
      ∙ ap (used c.cap key) (sym (keys-said c.entries))
      ∙ ap (λ (o : KeptParagraphs). used o.room key (kept_keys o)) is

  -- whether the key is kept is what a look-up finds
  kept-found : is_some (lookup ((key_eq.eq-value).it k) c.entries) ≡ is_kept key (kept_keys old)
  kept-found =
      is_kept-lookup k c.entries (alike tables hash_key c d k hashed kept)
      ∙ ap (λ s. is_kept s (keys c.entries)) says
      ∙ ap (is_kept key) (sym (keys-said c.entries))
      ∙ ap (λ (o : KeptParagraphs). is_kept key (kept_keys o)) is

  pub use-done : (found anew : Bool) → found ≡ is_some (lookup ((key_eq.eq-value).it k) c.entries) → anew ≡ not found → IsUse key old anew (kept_of hash_key d)
  use-done found anew told is_anew = record {
    room = u.cap ∙ ap (λ (o : KeptParagraphs). o.room) is;
    hash_key = ap (λ (o : KeptParagraphs). o.hash_key) is;
    keys = keys-used;
    anew = is_anew ∙ ap not (told ∙ kept-found);
  }

  pub newest-done : IsNewest key (kept_of hash_key d)
  newest-done =
      let room = ap (λ (o : KeptParagraphs). o.room) is in
      let some = kept.some in
      record { earlier = take (old.room - 1) (without key (kept_keys old)); keys = keys-used ∙ take-cons old.room key (without key (kept_keys old)) (omega arith) }

  fits-said : length (kept_keys old) ≤ old.room
  fits-said =
      let same : length (keys c.entries) ≡ length c.entries = search (rules, length-map) in
      subst (λ (o : KeptParagraphs). length (kept_keys o) ≤ o.room) is
      (subst (λ (ks : List ParagraphKey). length ks ≤ c.cap) (sym (keys-said c.entries)) (omega (arith, same, kept.fits)))

  -- no key changes if it was used last before, too
  pub keys-same : IsNewest key old → kept_keys (kept_of hash_key d) ≡ kept_keys old
  keys-same newest = keys-used ∙ used-newest old.room key newest.earlier (kept_keys old) newest.keys fits-said

  pub laid-done : AreLaid tables old → AreLaid tables (kept_of hash_key d)
  laid-done all =
      All-map (IsLaidBy tables) entry_said d.entries
      (u.laid (All-unmap (IsLaidBy tables) entry_said c.entries (subst (AreLaid tables) (sym is) all)))

-- what is kept under the newest key
newest-of : (tables : TableValues) (es : List (ParagraphKey × KeptParagraph)) (e : ParagraphKey × KeptParagraph) (key : ParagraphKey) (earlier : List ParagraphKey)
    → slice_get es 0 ≡ Some e → All (IsLaidBy tables) es → map (λ (f : ParagraphKey × KeptParagraph). f.0) es ≡ key ∷ earlier → IsLaidBy tables (key, e.1)
newest-of tables [] e key earlier at all first = cc
newest-of tables (f ∷ es) e key earlier at all first =
    let same : f ≡ e = cc in
    let own : f.0 ≡ key = cc in
    subst (IsLaidBy tables) (ap₂ (λ (k : ParagraphKey) (g : ParagraphKey × KeptParagraph). (k, g.1)) own same) (All-head (IsLaidBy tables) f es all)

module _ (hash_key : ℕ) (c : Cache) (now : KeptParagraphs) (is : kept_of hash_key c ≡ now) (tables : TableValues) (key : ParagraphKey) (laid : AreLaid tables now) (newest : IsNewest key now) where
  pub newest-laid : (e : Entry) → slice_get c.entries 0 ≡ Some e → IsLaidBy tables (key, laid_said e.1)
  newest-laid e at =
      newest-of tables (map entry_said c.entries) (entry_said e) key newest.earlier (first c.entries at) (subst (AreLaid tables) (sym is) laid)
      (ap (λ (o : KeptParagraphs). kept_keys o) is ∙ newest.keys)
    where
      first : (es : List Entry) → slice_get es 0 ≡ Some e → slice_get (map entry_said es) 0 ≡ Some (entry_said e)
      first [] h = cc
      first (f ∷ es) h = let same : f ≡ e = cc in ap (λ (g : Entry). Some (entry_said g)) same

  pub newest-some : slice_get c.entries 0 ≡ None → ⊥
  newest-some none = never c.entries none (ap (λ (o : KeptParagraphs). kept_keys o) is ∙ newest.keys)
    where
      never : (es : List Entry) → slice_get es 0 ≡ None → map (λ (f : ParagraphKey × KeptParagraph). f.0) (map entry_said es) ≡ key ∷ newest.earlier → ⊥
      never [] h k = cc
      never (f ∷ es) h k = cc

-- ---- a view of kept rows

-- a view with these kept rows
abbrev pub view_of : TableValues → KeptParagraphs → (laid : ℕ) → KeptView
view_of tables kept laid = record { tables = tables; room = kept.room; hash_key = kept.hash_key; keys = kept_keys kept; laid = laid }

-- kept rows with the same room, key of hashes and keys are seen as one view
pub view-same : (tables : TableValues) (kept later : KeptParagraphs) (laid : ℕ) → later.room ≡ kept.room → later.hash_key ≡ kept.hash_key → kept_keys later ≡ kept_keys kept
    → view_of tables later laid ≡ view_of tables kept laid
view-same tables kept later laid room hash_key keys =
    ap (λ r. record { tables = tables; room = r; hash_key = later.hash_key; keys = kept_keys later; laid = laid }) room
    ∙ ap (λ h. record { tables = tables; room = kept.room; hash_key = h; keys = kept_keys later; laid = laid }) hash_key
    ∙ ap (λ ks. record { tables = tables; room = kept.room; hash_key = kept.hash_key; keys = ks; laid = laid }) keys

-- a view after a use of a key
abbrev pub view_used : ParagraphKey → KeptView → KeptView
view_used key v = record v { keys = used v.room key v.keys }

module _ (tables : TableValues) (before after : KeptParagraphs) (laid : ℕ) (v : KeptView) (is : view_of tables before laid ≡ v) (key : ParagraphKey) (anew : Bool) (use_done : IsUse key before anew after) where
  pub view-used : view_of tables after laid ≡ view_used key v
  view-used =
      ap (λ r. record { tables = tables; room = r; hash_key = after.hash_key; keys = kept_keys after; laid = laid }) use_done.room
      ∙ ap (λ h. record { tables = tables; room = before.room; hash_key = h; keys = kept_keys after; laid = laid }) use_done.hash_key
      ∙ ap (λ ks. record { tables = tables; room = before.room; hash_key = before.hash_key; keys = ks; laid = laid }) use_done.keys
      ∙ ap (view_used key) is

  pub anew-seen : anew ≡ not (is_kept key v.keys)
  anew-seen = use_done.anew ∙ ap (λ (w : KeptView). not (is_kept key w.keys)) is
