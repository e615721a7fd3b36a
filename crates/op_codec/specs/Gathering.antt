-- Which characters operations insert.
use Rattle.std.specs.Prelude.{ℕ, List, [], ◌∷◌}
use Rattle.bg_types.specs.declared.op.OpView.{OpView}
use Rattle.bg_types.specs.declared.op.OpView.TheVariants.{Insert, Erase}

-- the characters of the insertions, in their order
abbrev pub inserted_characters : List OpView → List ℕ
inserted_characters [] = []
inserted_characters (Insert id parent ch ∷ ops) = ch ∷ inserted_characters ops
inserted_characters (Erase target ∷ ops) = inserted_characters ops
