pub mod Source
pub mod Claim
