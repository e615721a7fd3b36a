-- The operations that a desk makes where words are typed.
use Rattle.std.specs.Prelude.{ℕ, List, length}
use Rattle.bg_types.specs.declared.op.OpView.{OpView}
use Rattle.rga_tree.specs.TextOf.{visible}
use Rattle.desk_replica.specs.Desk.{Desk}
use Rattle.desk_replica.specs.Replacement.{typed_text}

-- the insertions of characters that are typed at the end of a desk's text, each after the one before
abbrev pub words_made : Desk → List ℕ → List OpView
words_made desk chs = typed_text desk.set desk.site (length (visible desk.set)) chs
