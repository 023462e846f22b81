pub mod Back
pub mod Store
