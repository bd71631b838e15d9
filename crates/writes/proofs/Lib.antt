pub mod Mates
pub mod Accepting
pub mod Texts
pub mod Turns
pub mod Whole
