mod Counted
mod Numbers
pub mod Spaced
mod Whole
pub mod Unsaid
pub mod Arrow
