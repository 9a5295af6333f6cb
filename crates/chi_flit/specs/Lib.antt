pub mod State
pub mod Kind
pub mod Credit
pub mod Snoop
pub mod Message
pub mod Refusal
pub mod Numbers
pub mod Config
