pub mod Saying
pub mod Standing
pub mod Narrowing
pub mod Running
pub mod Places
pub mod Releasing
pub mod Listing
pub mod Stepping
