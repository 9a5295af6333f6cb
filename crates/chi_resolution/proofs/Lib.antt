pub mod Balance
pub mod GrantLemmas
pub mod Kept
pub mod Refusals
pub mod Steps
