-- What the reader of plain lines hands on.
use Rattle.std.specs.Prelude.{◌≡◌, ◌<◌, ◌≤◌, ◌⊎◌, ℕ, List, [], ◌∷◌, ◌++◌, length, None}
use Rattle.std.specs.List.{AllByRecursion}
use Rattle.std.specs.Str.Lines.{lines}
use Rattle.bg_types.specs.declared.op.OpView.{OpView}
use Rattle.op_listing.specs.Line.{line_fault}
use Rattle.op_listing.specs.Listed.{line_operations}

-- a word stands at the front and says this, and the rest follows; the word has at most 19 bytes, and none of them is a space
-- or ends a line
pub record TakesField (Says : List ℕ → Type 0) (bytes rest : List ℕ) : Type 0 where
  pub word : List ℕ
  pub in_order : bytes ≡ word ++ rest
  pub some : 0 < length word
  pub short : length word ≤ 19
  pub visible : AllByRecursion (λ b. 32 < b) word
  pub said : Says word

-- LF or CR LF stands at the front, and the rest follows
abbrev pub EndsLine : List ℕ → List ℕ → Type 0
EndsLine bytes rest = (bytes ≡ 10 ∷ rest) ⊎ (bytes ≡ 13 ∷ 10 ∷ rest)

-- the first line has no fault and writes this operation, and the rest follows it
pub record TakesLine (text : List ℕ) (op : OpView) (rest : List ℕ) : Type 0 where
  pub line : List ℕ
  pub first : lines text ≡ line ∷ lines rest
  pub faultless : line_fault line ≡ None
  pub written : line_operations line ≡ op ∷ []
  pub shorter : length rest < length text
