-- The column of a word.
use Rattle.std.proofs.Common.{◌≡◌, ℕ, Bool, true, false, refl, subst, arith, if◌then◌else◌}
use Rattle.bg_types.specs.Classes.{is_nonspacing}
use Rattle.bg_types.specs.declared.class.Bidi.{Bidi}
use Rattle.bg_types.specs.declared.class.Lb.{Lb}
use Rattle.bg_types.specs.declared.class.Lb.TheVariants.{Cp, Op, Sa}
use Rattle.bg_types.specs.contracts.class.Lb.{the_type}
use denote.Enum.Declared.{tag_of}
use Rattle.unicode_tables.specs.declared.word.Word.{Word}
use Rattle.line_break.specs.Classes.{one_of, resolved, is_east_asian}
use Rattle.line_break.specs.Items.{Item, point_of_word}
use Rattle.line_break.specs.States.{columns, IsColumn}

-- a code point of this class of the data file
abbrev pub of_class : Bidi → Lb → Bool → Item
of_class bidi x w = record { class = resolved bidi x; wide = w }

module _ (bidi : Bidi) where
  pub column-cp : (w : Bool) → IsColumn (of_class bidi Cp w) (if w then 43 else 10)
  unfolding one_of resolved columns
  column-cp true = record { within = omega arith; same = refl }
  column-cp false = record { within = omega arith; same = refl }

  pub column-op : (w : Bool) → IsColumn (of_class bidi Op w) (if w then 44 else 30)
  unfolding one_of resolved columns
  column-op true = record { within = omega arith; same = refl }
  column-op false = record { within = omega arith; same = refl }

  pub column-mark : (w : Bool) → is_nonspacing bidi ≡ true → IsColumn (of_class bidi Sa w) 9
  unfolding one_of resolved columns
  column-mark w e = rw e (record { within = omega arith; same = refl })

  pub column-letter : (w : Bool) → is_nonspacing bidi ≡ false → IsColumn (of_class bidi Sa w) 1
  unfolding one_of resolved columns
  column-letter w e = rw e (record { within = omega arith; same = refl })

  -- the class alone tells it
  pub column-other : (x : Lb) (w : Bool) → (x ≡ Cp → ⊥) → (x ≡ Op → ⊥) → (x ≡ Sa → ⊥) → IsColumn (of_class bidi x w) (tag_of the_type x)
  unfolding one_of resolved columns
  column-other Cp w cp op sa = absurd (cp refl)
  column-other Op w cp op sa = absurd (op refl)
  column-other Sa w cp op sa = absurd (sa refl)
  column-other _ w cp op sa = record { within = omega arith; same = refl }

-- the same of a word whose class is known
pub IsColumn-of : (word : Word) (x : Lb) (n : ℕ) → x ≡ word.lb → IsColumn (of_class word.bidi x (is_east_asian word.ea)) n → IsColumn (point_of_word word) n
IsColumn-of word x n e k = subst (λ y. IsColumn (of_class word.bidi y (is_east_asian word.ea)) n) e k
