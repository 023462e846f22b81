pub mod Fields
mod Reading
mod Packing
pub mod Shown
pub mod Bits
pub mod RoundTrip
pub mod Ages
pub mod Stored
pub mod Nanoseconds
pub mod Figures
