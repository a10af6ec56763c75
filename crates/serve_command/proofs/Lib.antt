pub mod Ends
pub mod JobsEnds
pub mod RelayEnds
