pub mod Record
pub mod LastValues
pub mod Totals
pub mod Journal
pub mod Tracked
