pub mod Beats
pub mod Held
pub mod Judges
pub mod Lines
pub mod Flits
pub mod Nodes
pub mod Logs
pub mod Watched
