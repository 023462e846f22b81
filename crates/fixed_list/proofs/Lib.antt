pub mod Carried
mod Free
