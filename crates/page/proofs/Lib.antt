pub mod Reading
pub mod Starting
pub mod Walks
pub mod Writing
