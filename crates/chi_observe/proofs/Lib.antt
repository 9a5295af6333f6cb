pub mod SplitLemmas
pub mod StreamLemmas
pub mod WordLemmas
pub mod ReportLemmas
pub mod MarkLemmas
pub mod LineLemmas
pub mod WatchLemmas
mod RoomLemmas
pub mod CopyLemmas
mod LastLemmas
mod AnyBeats
mod BeatLemmas
mod LateLemmas
mod CountLemmas
mod TellLemmas
