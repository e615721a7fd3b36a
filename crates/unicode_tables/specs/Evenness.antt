-- Where code points have the properties of others.
use Rattle.std.specs.Prelude.{◌≡◌, ℕ, ◌+◌, ◌*◌, ◌<◌, None, slice_index_or}
use Rattle.unicode_tables.specs.declared.bracket.Bracket.TheVariants.{None as no_bracket}
use Rattle.unicode_tables.specs.declared.word.Word.{Word}
use Rattle.unicode_tables.specs.declared.word.Properties.{Properties}
use Rattle.unicode_tables.specs.Word.{word_with}

-- all code points of the block have the bracket and the mirrored character of its first
pub record HasEvenMarks (properties : Properties) (block : ℕ) : Type 0 where
  pub brackets : (k : ℕ) → k < 256
      → slice_index_or properties.bracket.now (block * 256 + k) no_bracket ≡ slice_index_or properties.bracket.now (block * 256) no_bracket
  pub mirrors : (k : ℕ) → k < 256
      → slice_index_or properties.mirror.now (block * 256 + k) None ≡ slice_index_or properties.mirror.now (block * 256) None

-- the word is that of a code point of the block
pub record IsWordIn (properties : Properties) (block : ℕ) (word : Word) : Type 0 where
  pub place : ℕ
  pub within : place < 256
  pub is : word ≡ word_with properties (block * 256 + place)
