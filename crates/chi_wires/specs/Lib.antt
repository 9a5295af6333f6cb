pub mod Cell
pub mod Flits
pub mod Flight
