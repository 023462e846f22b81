pub mod Dashes
pub mod Fields
pub mod Left
