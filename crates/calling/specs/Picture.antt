-- The picture of a text.
use Rattle.std.specs.Prelude.{ℕ, List}
use Rattle.bg_types.specs.declared.class.Base.TheVariants.{Auto}
use Rattle.ucd_files.specs.Tables.{TableValues}
use Rattle.cell_grid.specs.Grids.{DrawnGrid, grid_of}

-- a text drawn on 12 columns, each paragraph in the direction of its first strong letter
unfoldable pub picture_of : TableValues → List ℕ → DrawnGrid
picture_of tables text = grid_of tables 12 Auto text
