pub mod Histories
pub mod Ties
pub mod Settled
pub mod Goings
pub mod Placed
pub mod Landed
pub mod Asked
pub mod Moved
pub mod Delivered
pub mod Runs
pub mod Quieted
pub mod Scripted
mod Changed
