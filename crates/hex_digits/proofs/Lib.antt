mod Steps
pub mod Spelled
pub mod Laws
