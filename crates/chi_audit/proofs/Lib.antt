pub mod Channel
pub mod Firsts
pub mod Orders
pub mod Stored
pub mod Readers
pub mod Fresh
pub mod Outboxes
