-- Each law as its crate promises it.
use Rattle.cell_grid.proofs.laws_below.laws_below.Goals as goal

pub returns : goal.returns
returns c = record {
  clusters_join = c.clusters_join.ensures.joined;
  clusters_utf8 = c.clusters_join.ensures.utf8;
  clusters_some = c.clusters_join.ensures.some;
  sizes_some = c.cluster_places.ensures.some;
  paragraphs_join = c.paragraphs_join.ensures.joined;
  paragraphs_some = c.paragraphs_join.ensures.some;
  paragraphs_stand = c.paragraphs_join.ensures.slices;
  paragraphs_follow = c.paragraphs_join.ensures.follow;
  each_measured = c.each_measured.ensures;
  empty_line = c.empty_line.ensures;
  lines_follow = c.lines_follow.ensures;
  lines_fit = c.lines_fit.ensures;
  rearrangement = c.rearrangement.ensures;
  pieces_move_as_one = c.pieces_move_as_one.ensures;
}
