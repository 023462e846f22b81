pub mod Refusing
pub mod Hearing
pub mod Joining
