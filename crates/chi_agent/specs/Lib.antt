pub mod Draws
pub mod Operations
pub mod Choice
pub mod Turns
pub mod Script
pub mod Ended
pub mod Lives
pub mod Runs
