pub mod Channels
pub mod Opcodes
pub mod Resp
pub mod Ids
pub mod Flit
pub mod Near
pub mod Beat
pub mod Laws
