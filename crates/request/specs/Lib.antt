pub mod Acted
pub mod Sent
