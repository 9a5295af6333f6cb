-- What holds of all below a number, passed on: who sees a slice doesn't name its filters. Declares nothing.
pub use Rattle.chi_filter.proofs.Below.{AllBelow, none_below, next_below, all_below}
