pub mod Done
pub mod Blocks
pub mod Moments
pub mod Walks
pub mod Opcodes
