pub mod Map
pub mod Source
pub mod Calls
pub mod Claim
pub mod Width
