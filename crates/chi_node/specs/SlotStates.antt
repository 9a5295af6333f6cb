-- The states of a slot in a requester's account, passed on for the crates above. Declares nothing.
pub use Rattle.chi_credit.specs.declared.slot.SlotState.TheVariants.{Idle, Sent, Refused, Retried, Riding, Admitted, Closing, Cancelled}
