-- What the proofs of crates above may import from this crate's proofs, and nothing else.
pub use Rattle.cell_grid.proofs.Steps.{all_at, slice-parts, take-next, take-whole, flat_map-split_at, flat_map-take_next}
pub use Rattle.cell_grid.proofs.Slicing.{all-drawable, All-unmap}
pub use Rattle.cell_grid.proofs.Writing.{on_err, pieces-on, pieces-cut_last}
pub use Rattle.cell_grid.proofs.Sizes.{too-long}
pub use Rattle.cell_grid.proofs.LastBelow.{last_below-is, last_below-later, last_below-passes, last_below-within}
pub use Rattle.cell_grid.proofs.Windows.{slice_get-second, row_at-second, row_at-within}
pub use Rattle.cell_grid.proofs.Filling.{filled_next}
