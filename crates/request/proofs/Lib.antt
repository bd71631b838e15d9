pub mod Acting
pub mod Answered
pub mod Sent
