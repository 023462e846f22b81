pub mod Told
pub mod FieldKinds
pub mod Numbered
pub mod Longest
mod Examples
