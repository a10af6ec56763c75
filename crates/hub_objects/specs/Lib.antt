pub mod Changes
pub mod Counted
pub mod Jobs
pub mod Least
pub mod Memberships
pub mod Reads
pub mod Releases
