pub mod Found
pub mod Next
pub mod Taken
pub mod Stood
