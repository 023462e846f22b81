pub mod Members
pub mod Written
pub mod GateCalls
