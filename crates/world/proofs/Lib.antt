pub mod Filtered
pub mod Sound
pub mod Finding
pub mod Ranking
pub mod Listing
pub mod Tying
pub mod LegalLogs
