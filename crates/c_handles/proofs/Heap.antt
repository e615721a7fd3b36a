-- The heap as what a call passes for the type parameter of an allocator: its row, the laws of it, and the table of its drop,
-- which does nothing.
use mathlib.Core.List.{[], ◌∷◌}
use mathlib.Core.Path.{refl}
use mir.Raw.{raw as bare}
use mir.Syntax.{Dict, impl, tcons, tnil, dnil}
use denote.Exit.{no}
use denote.Param.{arg, layout}
use denote.Param.Laws.{Laws, arg_laws}
use denote.RattleType.{RattleType}
use Rattle.std.specs.contracts.alloc.Global as global
use Rattle.std.proofs.alloc.Global.TheLaws as global_laws

abbrev pub row : RattleType
row = arg (bare (layout global.the_row)) no global.the_row

abbrev pub laws : Laws row
laws = arg_laws (bare (layout global.the_row)) no global.the_row global_laws.the_row_laws refl

abbrev pub drops : Dict
drops = impl ("c_handles::Destruct++none::drop" ∷ []) (tcons (layout row) tnil) dnil
