pub mod Equal
pub mod Append
pub mod Logs
