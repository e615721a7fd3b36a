-- Texts without separators of paragraphs.
use Rattle.std.specs.Prelude.{◌≡◌, ℕ, false, List, ◌++◌, length, encode_utf8}
use Rattle.std.specs.List.{list_any}
use Rattle.std.specs.Str.{IsUtf8}
use Rattle.bg_types.specs.declared.class.Bidi.{Bidi}
use Rattle.paragraphs.specs.Classes.{is_separator}
use Rattle.paragraphs.specs.Text.{code_points}

-- no code point of the text has class B
abbrev pub HasNoSeparator : (class : ℕ → Bidi) (text : List ℕ) → Type 0
HasNoSeparator class text = list_any (λ c. is_separator (class c)) (code_points text) ≡ false

-- in the text c stands behind so many code points, none of class B, and in front of the rest
pub record IsBehind (class : ℕ → Bidi) (text : List ℕ) (before c : ℕ) (rest : List ℕ) : Type 0 where
  pub front : List ℕ
  pub utf8 : IsUtf8 front
  pub count : before ≡ length (code_points front)
  pub none : HasNoSeparator class front
  pub whole : text ≡ front ++ (encode_utf8 c ++ rest)
