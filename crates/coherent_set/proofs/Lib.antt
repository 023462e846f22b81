pub mod Marker
pub mod Wrap
pub mod Scope
