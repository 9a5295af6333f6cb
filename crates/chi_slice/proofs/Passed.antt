-- Lemmas of the crates below, passed on for the crates above. Declares nothing.
pub use Rattle.chi_journal.proofs.Append.{counted_more, part_fits, part_with}
pub use Rattle.chi_journal.proofs.Logs.{limit_with, part_count_with, with_record}
pub use Rattle.chi_line.proofs.After.{IsRetried, dbid_there, flit_there, issue_allowed, may_resend, neither}
pub use Rattle.chi_line.proofs.MoveLaw.{Moved, always_moves, completed_from, flit_at, moved_from}
pub use Rattle.chi_line.proofs.Positions.{unused_shows}
pub use Rattle.chi_line.proofs.CopyKeeps.{IsSnooping, is_snooping, snoop_no_response}
pub use Rattle.chi_line.proofs.CopyTables.{AnswerRow, answer_row, is_up}
pub use Rattle.chi_line.proofs.Finds.{idle_is, response_finds_pending}
pub use Rattle.chi_line.proofs.Sends.{CanStart, can_start}
