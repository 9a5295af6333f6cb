pub mod NumberLemmas
pub mod HexLemmas
pub mod RowLemmas
pub mod PartLemmas
pub mod LineLemmas
pub mod LineEndLemmas
pub mod LawLemmas
