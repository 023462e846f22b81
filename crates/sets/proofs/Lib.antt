pub mod Filled
pub mod Keeping
pub mod Lowest
pub mod Whole
