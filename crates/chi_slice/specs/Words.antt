-- What the crates above say of a slice in the words of the crates below it, passed on from one place. Declares
-- nothing.
pub use Rattle.chi_flit.specs.Config.{Sizes, are_entries, are_in_limits, config_if, four_types, is_between, is_slice_count, sizes_if, sizes_of, two_types}
pub use Rattle.chi_filter.specs.Filter.{FilterState, has_any, is_in}
pub use Rattle.chi_homeline.specs.Home.{Home, answer_taken, asks, completed_filter, completes_unique, completion_message, completion_of, data_to_send, finished_as, finished_sends_as, home_after_completion, memory_after, snoop_answered, started_as, started_sends_as, taken_up, waiting_of}
pub use Rattle.chi_homeline.specs.declared.serving.Serving.{Serving}
pub use Rattle.chi_homeline.specs.declared.serving.SnoopAnswer.{SnoopAnswer}
pub use Rattle.chi_homeline.specs.declared.serving.Waiting.{Waiting}
pub use Rattle.chi_journal.specs.Journal.{IsLegalLog, Log, LogKept, is_full, keeps_records, load_count, part_count, part_of, store_count}
pub use Rattle.chi_journal.specs.Totals.{counted, most_counted}
pub use Rattle.chi_journal.specs.Record.{record_agent}
pub use Rattle.chi_journal.specs.declared.record.Record.{Record}
pub use Rattle.chi_line.specs.Coherence.{Coherent}
pub use Rattle.chi_line.specs.Kept.{Kept, Lane, LaneKept, bit, is_dbid, is_retried, lane, snoops_for}
pub use Rattle.chi_line.specs.LineState.{LineState, cells_of, opening_line, rn_of}
pub use Rattle.chi_line.specs.Meaning.{standing_of}
pub use Rattle.chi_line.specs.Moves.{completed_to, if_moved, moved_slot, moved_to, requested_slot}
pub use Rattle.chi_line.specs.Places.{position_at}
pub use Rattle.chi_line.specs.Refused.{full_if, has_flit, line_refusal, marked_credit_refusal, no_flit_unless, retry_refusal, step_refusal}
pub use Rattle.chi_line.specs.Snooped.{answer_channel}
pub use Rattle.chi_line.specs.Step.{after, after_step, answer_in, answered_by, completed_slot, completion_received, data_answer, dbid_received_line, effect_of, flits_after_start, is_comp, is_slot, is_step_in_range, issued_line, issued_slot, pending_slot, received_line, record_of, resent_line, response_answer, retried_line, snooped_line, started_line, where_some}
pub use Rattle.chi_line.specs.Table.{IsAt, IsFound}
pub use Rattle.chi_line.specs.Traffic.{answer_flit, answered_flits, completion_ack, completion_flits, flit_taken, flits_sent, request_again, retry_ack, snoop_answer, start_flits, started_flits}
pub use Rattle.chi_line.specs.Types.{has_type, is_of_type, pending_credit, pending_kind_of, requested_kind_of}
pub use Rattle.chi_line.specs.View.{line_view}
pub use Rattle.chi_line.specs.declared.act.Conditions.{Conditions}
pub use Rattle.chi_line.specs.declared.position.Position.{Position}
pub use Rattle.chi_line.specs.declared.view.CopyView.{CopyView}
pub use Rattle.chi_line.specs.declared.view.LineView.{LineView}
pub use Rattle.chi_rnline.specs.Rn.{Rn, is_clean_copy, load_refusal, resend_refusal, store_refusal}
pub use Rattle.chi_rnline.specs.declared.pending.Pending.{Pending}
pub use Rattle.chi_rnline.specs.declared.pending.Phase.{Phase}
pub use Rattle.chi_wires.specs.Cell.{cell_of, no_flits, with_message}
pub use Rattle.chi_wires.specs.Flight.{Flit, channel_number, flit, flit_of, in_flight, snoop_flits}
pub use Rattle.chi_wires.specs.Flits.{cells_at}
pub use Rattle.chi_wires.specs.declared.cells.Cells.{Cells}
