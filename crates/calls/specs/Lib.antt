pub mod Run
pub mod Said
pub mod Narrow
pub mod Runs
pub mod Steps
