-- The records of a journal, passed on for the crates above. Declares nothing.
pub use Rattle.chi_journal.specs.declared.record.Record.TheVariants.{Load, Store}
