pub mod Numbers
pub mod Boxes
pub mod Gathered
pub mod Tally
pub mod Cells
pub mod Tallies
