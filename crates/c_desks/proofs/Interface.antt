-- What the proofs of crates above may import from this crate's proofs, and nothing else.
pub use Rattle.c_desks.proofs.Erased.{erased_most, erased_one, erased_stretch, not_erased}
pub use Rattle.c_desks.proofs.Keystrokes.{erased_key, erased_place, erased_room, typed_exchange, typed_place, typed_room, unerased_exchange, untyped_exchange}
pub use Rattle.c_desks.proofs.Messages.{copied_one, not_exchanged, one_most, replaced_fits, replaced_length}
pub use Rattle.c_desks.proofs.Texts.{none_of}
