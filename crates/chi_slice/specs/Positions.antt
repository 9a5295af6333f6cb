-- Where a request is, passed on for the crates above. Declares nothing.
pub use Rattle.chi_line.specs.declared.position.Position.TheVariants.{Sent, Refused, Retried, Resent, Admitted, Answered, Closing}
