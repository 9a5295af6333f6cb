pub mod Headlines
pub mod Judged
