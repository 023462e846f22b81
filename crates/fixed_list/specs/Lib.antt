pub mod FixedList
pub mod Places
