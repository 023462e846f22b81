pub mod Answers
pub mod AtOnce
pub mod Output
