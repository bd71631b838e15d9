pub mod Kinds
pub mod Judged
pub mod Pairs
pub mod Number
pub mod Weighed
pub mod Weighable
pub mod Bits
pub mod Raws
