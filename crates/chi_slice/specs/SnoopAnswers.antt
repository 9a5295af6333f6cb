-- The answers to a snoop, passed on for the crates above. Declares nothing.
pub use Rattle.chi_homeline.specs.declared.serving.SnoopAnswer.TheVariants.{I, SC, IPD, SCPD, SD}
