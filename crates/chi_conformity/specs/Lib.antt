pub mod Seen
pub mod Conformity
