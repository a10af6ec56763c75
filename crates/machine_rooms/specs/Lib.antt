pub mod Counts
pub mod Rooms
pub mod Steps
