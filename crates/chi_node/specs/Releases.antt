-- What becomes of a released entry, passed on for the crates above. Declares nothing.
pub use Rattle.chi_tracker.specs.declared.released.Released.TheVariants.{Granted, Freed}
