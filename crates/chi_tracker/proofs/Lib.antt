pub mod Addition
mod Tallies
pub mod BitLaws
pub mod Entries
mod Moves
mod Written
mod Places
mod Fits
mod Allowed
pub mod Start
pub mod Histories
mod Advance
mod Seats
mod Whole
mod Deals
mod Upkeep
pub mod Sweeps
mod Exactly
mod Together
pub mod Telling
mod Gathering
pub mod Balance
pub mod Conduct
pub mod Outcomes
