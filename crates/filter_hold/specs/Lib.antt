pub mod Tbf
