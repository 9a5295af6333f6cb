pub mod Columns
pub mod Cursors
pub mod Limits
pub mod Lists
pub mod Masks
pub mod Numbers
