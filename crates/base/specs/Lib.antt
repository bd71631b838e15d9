pub mod Check
pub mod Lists
pub mod Bytes
