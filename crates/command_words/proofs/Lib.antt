pub mod Spelled
pub mod Adding
pub mod Rules
pub mod Entered
pub mod Walks
pub mod Answered
pub mod InRange
mod Clapped
