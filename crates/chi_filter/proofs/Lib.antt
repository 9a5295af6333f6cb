pub mod Equal
pub mod Below
pub mod Keeps
pub mod Without
