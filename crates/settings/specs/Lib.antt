pub mod Layout
pub mod Bits
pub mod Setting
pub mod Refused
pub mod Store
pub mod Durations
