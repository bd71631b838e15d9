pub mod Moments
pub mod Spans
pub mod Stretch
pub mod Told
pub mod Plans
pub mod Spare
