-- Sets of character classes.
unfoldable pub use Rattle.unicode_tables.specs.Classes.{is_separator, is_removed, is_isolate_control, is_line_end, is_wide, is_ambiguous}
