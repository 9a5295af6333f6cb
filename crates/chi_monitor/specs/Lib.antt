pub mod Bases
pub mod Choices
pub mod Copies
pub mod Forgotten
pub mod HomeTurns
pub mod Places
pub mod Turns
pub mod Watched
