-- Each law as its crate promises it.
use Rattle.live_document.proofs.laws_below.laws_below.Goals as goal

pub returns : goal.returns
returns c = record {
  paragraphs_stand = c.paragraphs_join.ensures.slices;
  paragraphs_follow = c.paragraphs_join.ensures.follow;
  places_rise = c.first_places_rise.ensures;
  rows_follow = c.rows_of_paragraphs.ensures.follow;
  rows_behind = c.rows_of_paragraphs.ensures.behind;
  some_rows = c.rows_of_paragraphs.ensures.some;
  may_shift = c.rows_may_shift.ensures;
  slices = c.rows_print_alike.ensures.slices;
  prints_alike = c.rows_print_alike.ensures.alike;
  sizes_alike = c.rows_print_alike.ensures.sizes;
  in_stretch = c.windows_in_stretches.ensures;
  whole_some = c.rows_follow.ensures.some;
  whole_follow = c.rows_follow.ensures.follow;
  positions = c.positions_are_carets.ensures;
  place_in_stretch = c.places_in_windows.ensures.stretch;
  moves_in_stretch = c.moves_in_windows.ensures;
}
