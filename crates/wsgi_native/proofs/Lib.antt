pub mod Earning
pub mod Polling
pub mod Posting
pub mod Talking
pub mod Tying
pub mod Vain
