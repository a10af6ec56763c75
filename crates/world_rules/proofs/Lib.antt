pub mod JobEnds
pub mod Logs
pub mod CollatzSteps
