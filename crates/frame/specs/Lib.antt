pub mod Address
pub mod Frame
pub mod Framing
