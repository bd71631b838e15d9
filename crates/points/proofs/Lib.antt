pub mod Laws
pub mod Rows
pub mod Placed
pub mod Cases
pub mod Tables
