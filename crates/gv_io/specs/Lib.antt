pub mod Streams
pub mod Memory
pub mod Limited
