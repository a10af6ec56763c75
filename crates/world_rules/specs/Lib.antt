pub mod Evaluate
pub mod Legal
pub mod Script
pub mod Rules
