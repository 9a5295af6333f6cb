pub mod Rn
