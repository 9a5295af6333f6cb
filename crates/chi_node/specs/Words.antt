-- What the crates above say of a node in the words of the crates below it, passed on from one place. Declares
-- nothing.
pub use Rattle.atomic_table.specs.Seated.{TableId}
pub use Rattle.chi_credit.specs.Account.{IsLowestIdle, all_idle, lowest_cancelled, riding_of, slot_record_at, slots_with_state, state_at}
pub use Rattle.chi_credit.specs.Slot.{after_finish, idle_slot, is_idle_state}
pub use Rattle.chi_credit.specs.declared.slot.SlotRecord.{SlotRecord}
pub use Rattle.chi_credit.specs.declared.slot.SlotState.{SlotState}
pub use Rattle.chi_tracker.specs.Calls.{Claims, HasOneLess, HasReturned, IsLowestSeen, LeavesHandAsItsType, Tended, owed_one, saw_all, seen_of, set_count, shape_of}
pub use Rattle.chi_tracker.specs.Shape.{count_of, low, size}
pub use Rattle.chi_tracker.specs.Steps.{spends}
pub use Rattle.chi_tracker.specs.Sums.{set_at, take_out}
pub use Rattle.chi_tracker.specs.Totals.{IsClosed, longest, views_of}
pub use Rattle.chi_tracker.specs.Views.{PortView, has, new_port, new_ports}
pub use Rattle.chi_tracker.specs.declared.released.Released.{Released}
pub use Rattle.chi_tracker.specs.declared.shape.Shape.{Shape}
pub use Rattle.chi_tracker.specs.declared.totals.Counts.{Counts}
pub use Rattle.chi_tracker.specs.declared.totals.Credits.{Credits}
