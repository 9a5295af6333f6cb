-- The phases of a pending request, passed on for the crates above. Declares nothing.
pub use Rattle.chi_rnline.specs.declared.pending.Phase.TheVariants.{Sent, Retried}
