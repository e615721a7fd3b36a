-- What holds of the cache behind kept rows.
use Rattle.std.specs.Prelude.{◌≡◌, ◌<◌, ◌≤◌, ℕ, length, option_map}
use Rattle.std.specs.List.{All}
use Rattle.std.specs.Rc.{rc_slice_items}
use Rattle.lru.specs.LruCache.{LruCache}
use Rattle.view_cache.specs.declared.key.Key.{Key}
use Rattle.view_cache.specs.declared.laid.Laid.{Laid}
use Rattle.view_cache.specs.Keys.{ParagraphKey, said}
use Rattle.view_cache.specs.KeptParagraphs.{KeptParagraph}

-- what a contract sees of what is kept of a paragraph
abbrev pub laid_said : Laid → KeptParagraph
laid_said laid = record { rows = rc_slice_items laid.rows; print = option_map rc_slice_items laid.print }

-- and of an entry
abbrev pub entry_said : Key × Laid → ParagraphKey × KeptParagraph
entry_said e = (said e.0, laid_said e.1)

-- an entry's key begins with this one
abbrev pub IsHashedBy : ℕ → Key × Laid → Type 0
IsHashedBy hash_key e = e.0.hash_key ≡ hash_key

-- each entry's hash begins with one key, and no more are kept than there is room for
pub record IsKept (hash_key : ℕ) (kept : LruCache Key Laid) : Type 0 where
  pub hashed : All (IsHashedBy hash_key) kept.entries
  pub fits : length kept.entries ≤ kept.cap
  pub some : 0 < kept.cap
