-- What the proofs of crates above may import from this crate's proofs, and nothing else.
pub use Rattle.bg_types.proofs.Bools.{two_cases, one_of, or_swap}
pub use Rattle.bg_types.proofs.Edits.{edit_once, edit_both, edit_parts}
pub use Rattle.bg_types.proofs.Entries.{all_weaker, all_both, both_of, above_of, entries-found}
pub use Rattle.bg_types.proofs.IdentifierOrder.{id_cmp-total, id_cmp-exact, same_id-is, same_id-itself}
pub use Rattle.bg_types.proofs.NextCounter.{next-above, next-least}
pub use Rattle.bg_types.proofs.OperationSets.{node, some_is, none_of, unwrap_first, same_tests, same_sets, same_operations, Holds-no_operations, Holds-with_operation, get-union, Holds-union, Holds-may_join, with_operation-known, size-with_operation}
