pub mod Checks
pub mod Sorting
pub mod Words
