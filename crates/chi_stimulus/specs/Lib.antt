pub mod Stimulus
pub mod SecondPass
