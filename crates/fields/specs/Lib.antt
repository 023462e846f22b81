pub mod Fields
pub mod Front
pub mod Left
