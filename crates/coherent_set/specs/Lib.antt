pub mod Marker
pub mod Scope
pub mod Access
