pub mod Asking
pub mod Knowing
pub mod Steps
pub mod Stopping
pub mod Taking
pub mod Turning
pub mod Under
