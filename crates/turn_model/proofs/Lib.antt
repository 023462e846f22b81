pub mod Rows
pub mod Alike
