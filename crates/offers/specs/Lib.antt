pub mod Refused
pub mod Sender
