pub mod Guids
pub mod Numbers
pub mod Keys
