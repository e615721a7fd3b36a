-- The goals of `table_values` that are answered by hand.
use Rattle.std.specs.Prelude.{None}
use Rattle.bg_types.specs.declared.class.Bidi.TheVariants.{L}
use Rattle.bg_types.specs.declared.class.Lb.TheVariants.{Xx}
use Rattle.bg_types.specs.declared.class.Ea.TheVariants.{N}
use Rattle.unicode_tables.specs.declared.bracket.Bracket.TheVariants.{None as no_bracket}
use Rattle.ucd_files.specs.Reading.{value_at}
use Rattle.ucd_files.specs.Files.{bidi_file, brackets_file, mirror_file, lb_file, ea_file}
use Rattle.unicode_tables.proofs.Interface.{each_below-at}
use Rattle.ucd_files.proofs.laws.table_values.Goals as goal

pub returns-clause-bidi : goal.returns-clause-bidi
returns-clause-bidi _ = λ bidi brackets mirror lb ea c h. each_below-at 0x110000 (value_at bidi_file bidi) c L h

pub returns-clause-bracket : goal.returns-clause-bracket
returns-clause-bracket _ = λ bidi brackets mirror lb ea c h. each_below-at 0x110000 (value_at brackets_file brackets) c no_bracket h

pub returns-clause-mirror : goal.returns-clause-mirror
returns-clause-mirror _ = λ bidi brackets mirror lb ea c h. each_below-at 0x110000 (value_at mirror_file mirror) c None h

pub returns-clause-lb : goal.returns-clause-lb
returns-clause-lb _ = λ bidi brackets mirror lb ea c h. each_below-at 0x110000 (value_at lb_file lb) c Xx h

pub returns-clause-ea : goal.returns-clause-ea
returns-clause-ea _ = λ bidi brackets mirror lb ea c h. each_below-at 0x110000 (value_at ea_file ea) c N h
