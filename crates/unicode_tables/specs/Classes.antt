-- Sets of character classes.
use Rattle.std.specs.Prelude.{Bool, true, false}
use Rattle.bg_types.specs.declared.class.Bidi.{Bidi}
use Rattle.bg_types.specs.declared.class.Bidi.TheVariants.{B, S}
use Rattle.bg_types.specs.declared.class.Lb.{Lb}
use Rattle.bg_types.specs.declared.class.Lb.TheVariants.{Bk, Cr, Lf, Nl, Sp}
use Rattle.bg_types.specs.declared.class.Ea.{Ea}
use Rattle.bg_types.specs.declared.class.Ea.TheVariants.{A, F, W}
unfoldable pub use Rattle.bg_types.specs.Classes.{is_removed, is_isolate_control}

-- UAX #9, P1: the class of what ends a paragraph
unfoldable pub is_separator : Bidi → Bool
is_separator B = true
is_separator _ = false

-- the class of what separates segments, as a tab does
unfoldable pub is_segment_separator : Bidi → Bool
is_segment_separator S = true
is_segment_separator _ = false

-- UAX #14, LB4 and LB5: the classes after which a line must end
unfoldable pub is_line_end : Lb → Bool
is_line_end Bk = true
is_line_end Cr = true
is_line_end Lf = true
is_line_end Nl = true
is_line_end _ = false

-- UAX #14: the class of spaces
unfoldable pub is_space : Lb → Bool
is_space Sp = true
is_space _ = false

-- UAX #11: the widths of two columns
unfoldable pub is_wide : Ea → Bool
is_wide W = true
is_wide F = true
is_wide _ = false

-- UAX #11: the width that the context decides
unfoldable pub is_ambiguous : Ea → Bool
is_ambiguous A = true
is_ambiguous _ = false
