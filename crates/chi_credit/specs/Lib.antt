pub mod Slot
pub mod Account
pub mod Payment
