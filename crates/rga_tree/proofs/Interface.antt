-- What the proofs of crates above may import from this crate's proofs, and nothing else.
pub use Rattle.rga_tree.proofs.WalkAmong.{Entry, turned}
pub use Rattle.rga_tree.proofs.Entries.{IsAbsent, entries_of, Rises-entries, AreWellFounded-entries}
pub use Rattle.rga_tree.proofs.Depth.{walk-among}
pub use Rattle.rga_tree.proofs.SetSteps.{AllWellFormed-with, IsTree-grown, OnlyErasesPlaced-grown, same_id-swap}
pub use Rattle.rga_tree.proofs.RowPlaces.{AreDistinct}
pub use Rattle.rga_tree.proofs.RowSets.{has_row}
pub use Rattle.rga_tree.proofs.Placing.{KeepsWalk-nothing, placing, start_within}
pub use Rattle.rga_tree.proofs.Siblings.{less_of, place_behind_sibling}
pub use Rattle.rga_tree.proofs.Hiding.{hiding}
pub use Rattle.rga_tree.proofs.Seen.{element_row, visible_row, seen_at, before_elements, before_row}
pub use Rattle.rga_tree.proofs.VisiblePlaces.{seen-more, visible_at, from_place, shown_elements, place_within}
pub use Rattle.rga_tree.proofs.Listed.{is_listed, all_listed}
pub use Rattle.rga_tree.proofs.AttachedWalk.{IsReached, IsAttached-child, all_passing, all_weaker_by, all_attached, all_held, listed-attached}
pub use Rattle.rga_tree.proofs.WalkDistinct.{AreDistinct-walk, IsDistinct-walked}
pub use Rattle.rga_tree.proofs.TreeAttached.{IsAttached-more, IsAttached-tree}
pub use Rattle.rga_tree.proofs.AttachedPart.{walk-part}
pub use Rattle.rga_tree.proofs.LeafWalk.{walk-leaf_attached, walk-leaf_at}
pub use Rattle.rga_tree.proofs.SubWalk.{walk-sub_walk, is_attached-test, inserted_part, AllWellFormed-part}
pub use Rattle.rga_tree.proofs.Lines.{StandsBefore-unfiltered}
pub use Rattle.rga_tree.proofs.OneOrder.{filter_ids, Precedes-attached, Precedes-part, Precedes-agree, text-same_operations}
pub use Rattle.rga_tree.proofs.Runs.{runs_at_one_place}
pub use Rattle.rga_tree.proofs.TypedPlace.{walk-typed_behind, walk-typed_first, StandsBetween-typed}
pub use Rattle.rga_tree.proofs.RunSteps.{later-more, later-none, later-apart, later-less, drawn, stands_behind, new_behind, IsUnderWay, begun, parent_behind, one_further, some_under_way, next_new, nothing_left}
pub use Rattle.rga_tree.proofs.RunRows.{take-insert, drop-insert, run_of, put_in, put_in-cons, start_behind, formed_run, place_in_row, placing_run}
pub use Rattle.rga_tree.proofs.Texts.{bytes_of, bytes-hidden, bytes-visible}
pub use Rattle.rga_tree.proofs.Joined.{joined-suc, joined-add, offset_less, get_or_joined, slice_get_joined, drop_joined, set_joined, insert_joined, split_joined, split_low, split_front, split_long}
pub use Rattle.rga_tree.proofs.Until.{until, until_none, until_some, until-first, find-until, find_none, any_default}
pub use Rattle.rga_tree.proofs.Counts.{seen_by, shown_weight, weight_le, seen-insert, seen-append, seen_all-joined, before_spot}
pub use Rattle.rga_tree.proofs.Greater.{is_greater, pre_all, pre_stop, stops_early, goes_on}
