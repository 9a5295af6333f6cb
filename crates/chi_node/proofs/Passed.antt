-- Lemmas of the crates below, passed on for the crates above. Declares nothing.
pub use Rattle.chi_tracker.proofs.BitLaws.{taken_else, taken_here}
pub use Rattle.chi_tracker.proofs.Entries.{count_kept, count_moved, credit_below, in_range, of_credit}
