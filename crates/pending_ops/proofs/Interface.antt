-- What the proofs of crates above may import from this crate's proofs, and nothing else.
pub use Rattle.pending_ops.proofs.Tables.{IsDistinct-apart}
pub use Rattle.pending_ops.proofs.Views.{contains-from_list}
pub use Rattle.pending_ops.proofs.Listing.{one_place, len-from_list, slice_get-left, slice_get_either}
pub use Rattle.pending_ops.proofs.OneStep.{is_ready-same}
pub use Rattle.pending_ops.proofs.Loop.{PlacesEach-push, one_more_below}
