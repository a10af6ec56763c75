pub mod Dialling
pub mod MemoryDialling
