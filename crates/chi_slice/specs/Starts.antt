-- What starts a request, passed on for the crates above. Declares nothing.
pub use Rattle.chi_homeline.specs.Home.Started.{Sends, Evicted, Snoops}
