pub mod Chained
pub mod Own
