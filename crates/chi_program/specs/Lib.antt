pub mod Charts
pub mod Covers
pub mod Endings
pub mod Looks
pub mod Stops
pub mod Suites
pub mod Faults
pub mod Watches
