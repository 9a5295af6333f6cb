-- What a line serves, passed on for the crates above. Declares nothing.
pub use Rattle.chi_homeline.specs.declared.serving.Serving.TheVariants.{Idle, Snooping, AwaitingCompAck, AwaitingWriteData}
