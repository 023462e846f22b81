pub mod PLines
