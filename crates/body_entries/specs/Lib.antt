pub mod Entries
pub mod Few
