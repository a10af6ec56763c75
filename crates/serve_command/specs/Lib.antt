pub mod Endings
pub mod Jobs
pub mod Lines
pub mod Relay
pub mod Serving
