-- The key under which the rows of a paragraph are kept.
use Rattle.std.specs.Prelude.{ℕ, Bool, ◌&&◌, List, string_bytes, nat_eq}
use Rattle.std.specs.Cmp.Lexicographic.{pointwise}
use denote.Enum.Bare.{sameb}
use Rattle.bg_types.specs.contracts.class.Base.{the_type}
use Rattle.bg_types.specs.declared.class.Base.{Base}
use Rattle.view_cache.specs.declared.key.Key.{Key}

-- a paragraph's text, the width and the base that it is drawn at
pub record ParagraphKey : Type 0 where
  pub text : List ℕ
  pub width : ℕ
  pub base : Base

-- the key of a text at a width and a base
abbrev pub paragraph_key : (text : List ℕ) → (width : ℕ) → Base → ParagraphKey
paragraph_key text width base = record { text = text; width = width; base = base }

-- what a stored key says
abbrev pub said : Key → ParagraphKey
said k = paragraph_key (string_bytes k.text) k.width k.base

-- two keys have one text, one width and one base
unfoldable pub same_key : ParagraphKey → ParagraphKey → Bool
same_key a b = pointwise nat_eq a.text b.text && (nat_eq a.width b.width && sameb the_type a.base b.base)
