pub mod Places
pub mod Own
