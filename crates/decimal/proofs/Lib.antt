pub mod Reading
pub mod Splitting
pub mod Printing
pub mod Fronts
pub mod Putting
pub mod Lengths
pub mod Laws
