-- A stretch of paragraphs in whose place a text stands.
use Rattle.std.specs.Prelude.{◌≡◌, ◌-◌, ◌<◌, ◌≤◌, ◌++◌, ℕ, Bool, true, List, [], ◌∷◌, cond, length, take, drop, map as each}
use Rattle.std.specs.List.{concat}
use Rattle.unicode_tables.specs.Tables.{TableValues, bidi_of}
use Rattle.paragraphs.specs.Classes.{is_separator}
use Rattle.paragraphs.specs.Text.{code_points}
use Rattle.paragraphs.specs.Paragraphs.{meets_at_cut, paragraphs}

-- the text with this in place of paragraphs from `from` up to `to`
abbrev pub text_with : List (List ℕ) → (from to : ℕ) → List ℕ → List ℕ
text_with kept from to points = concat (take from kept) ++ (points ++ concat (drop to kept))

-- the text in place of paragraphs from `from` up to `to` begins at a cut
pub record IsBegun (tables : TableValues) (kept : List (List ℕ)) (from to : ℕ) (points : List ℕ) : Type 0 where
  pub order : from < to
  pub within : to ≤ length kept
  pub before : meets_at_cut (bidi_of tables) (concat (take from kept)) (points ++ concat (drop to kept)) ≡ true

-- it meets those beside it at cuts
pub record IsRemade (tables : TableValues) (kept : List (List ℕ)) (from to : ℕ) (points : List ℕ) : Type 0 where
  pub begun : IsBegun tables kept from to points
  pub after : to < length kept → meets_at_cut (bidi_of tables) points (concat (drop to kept)) ≡ true

-- a code point is a separator
abbrev pub separates : TableValues → ℕ → Bool
separates tables c = is_separator (bidi_of tables c)

-- a text of so many code points is one paragraph where it is the last one, or where others follow it
pub record IsOne (tables : TableValues) (last : Bool) (text : List ℕ) (places : ℕ) : Type 0 where
  pub count : places ≡ length (code_points text)
  pub alone : (let all = each (λ p. code_points p.text) (paragraphs tables text) in cond last all (take (length all - 1) all)) ≡ code_points text ∷ []
