pub mod Row
pub mod Rows
pub mod Types
pub mod Place
pub mod There
pub mod Columns
pub mod Sums
