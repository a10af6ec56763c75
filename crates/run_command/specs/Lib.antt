pub mod Running
pub mod Ends
pub mod Faults
pub mod Inner
pub mod Storming
