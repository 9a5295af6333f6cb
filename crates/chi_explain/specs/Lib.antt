pub mod Sent
pub mod Opening
pub mod Explained
