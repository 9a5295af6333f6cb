pub mod Equal
pub mod Marked
pub mod Moved
pub mod Once
