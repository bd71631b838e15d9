pub mod Store
pub mod Fresh
