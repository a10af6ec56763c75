pub mod TreeLines
pub mod Texts
pub mod Written
