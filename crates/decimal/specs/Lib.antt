pub mod Read
pub mod Split
pub mod Print
