-- What the proofs of crates above may import from this crate's proofs, and nothing else.
pub use Rattle.desk_files.proofs.Spelled.{take-push, split-at}
pub use Rattle.desk_files.proofs.HandedOn.{answer_handed, err_handed}
pub use Rattle.desk_files.proofs.Readings.{none_were_asked, never_failed, over_memory, as_many, run_ended, run_unread, run_told, told_so, ends_so, ends_unread, err_over, ok_over, over_told}
pub use Rattle.desk_files.proofs.Decided.{one_of_two}
