pub mod Guid
pub mod Keys
