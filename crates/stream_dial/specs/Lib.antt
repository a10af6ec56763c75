pub mod Dials
pub mod MemoryDials
pub mod Slots
