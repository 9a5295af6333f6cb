pub mod Elsewhere
pub mod SentLemmas
pub mod Tests
