pub mod Seen
pub mod Begins
pub mod Filtered
pub mod Judged
pub mod Known
pub mod Written
