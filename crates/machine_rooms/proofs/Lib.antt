pub mod Ledger
pub mod Requests
pub mod Rooms
pub mod Tallies
