pub mod Outcomes
pub mod Scripts
pub mod Verdicts
pub mod Storms
