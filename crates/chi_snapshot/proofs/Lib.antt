pub mod Once
pub mod PartsOnce
pub mod SliceOnce
