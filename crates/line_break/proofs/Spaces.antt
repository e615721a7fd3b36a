-- A space by itself.
use Rattle.std.proofs.Common.{◌≡◌, ℕ, ◌&&◌, List, [], ◌∷◌, map, refl, sym, ap, ap₂, ◌∙◌}
use Rattle.std.specs.List.{list_all}
use Rattle.std.proofs.Math.Bool.{and-true}
use Rattle.bg_types.specs.declared.class.Lb.{Lb}
use Rattle.bg_types.specs.declared.class.Lb.TheVariants.{Sp}
use Rattle.unicode_tables.specs.Classes.{is_space as is_space_class}
use Rattle.unicode_tables.specs.Tables.{TableValues}
use Rattle.unicode_tables.specs.Word.{word_of}
use Rattle.unicode_tables.specs.declared.word.Word.{Word}
use Rattle.line_break.specs.Classes.{one_of}
use Rattle.line_break.specs.LineClusters.{is_space}

one_of-space : (x : Lb) → one_of (Sp ∷ []) x ≡ is_space_class x
unfolding one_of is_space_class
one_of-space Sp = refl
one_of-space _ = refl

-- its word tells a space
pub is_space-alone : (tables : TableValues) (word : Word) (c : ℕ) → word ≡ word_of tables c → word.is_space ≡ is_space tables (c ∷ [])
is_space-alone tables word c same =
    ap (λ (w : Word). w.is_space) same ∙ sym (and-true (one_of (Sp ∷ []) (word_of tables c).lb) ∙ one_of-space (word_of tables c).lb)

-- and the words of several code points tell whether all are spaces
pub is_space-words : (tables : TableValues) (points : List ℕ) → list_all (λ (w : Word). w.is_space) (map (word_of tables) points) ≡ is_space tables points
is_space-words tables [] = refl
is_space-words tables (c ∷ points) = ap₂ ◌&&◌ (sym (one_of-space (word_of tables c).lb)) (is_space-words tables points)
