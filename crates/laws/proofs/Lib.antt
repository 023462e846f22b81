pub mod Answer
pub mod Whole
pub mod Bytes
pub mod Lists
