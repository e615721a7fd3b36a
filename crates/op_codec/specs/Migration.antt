-- What becomes of a migrated file, and when it stays as long.
use Rattle.std.specs.Prelude.{◌≡◌, false, List, [], ◌∷◌, ℕ, Option}
use Rattle.bg_types.specs.Identifier.{Identifier}
use Rattle.bg_types.specs.declared.op.OpView.{OpView}
use Rattle.op_codec.specs.declared.position.Version.TheVariants.{Two}
use Rattle.op_codec.specs.Spelling.{Spells, SpellsIn, joins, last_id}

-- the second file is version 2's spelling of the operations of the first
pub record IsMigration (file migrated : List ℕ) : Type 0 where
  pub ops : List OpView
  pub from : Spells file ops
  pub to : SpellsIn Two migrated ops

-- no operation joins the one before it
abbrev pub AreApart : Option Identifier → List OpView → Type 0
AreApart before [] = Unit {0}
AreApart before (op ∷ ops) = (joins before op ≡ false) × AreApart (last_id op []) ops
