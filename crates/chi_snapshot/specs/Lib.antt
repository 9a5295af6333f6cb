pub mod Bytes
pub mod Parts
pub mod JournalBytes
pub mod Snapshot
pub mod Faults
