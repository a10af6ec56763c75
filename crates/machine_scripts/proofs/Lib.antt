pub mod Moments
pub mod Followed
