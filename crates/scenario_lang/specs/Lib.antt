pub mod Builders
pub mod Lines
pub mod Roles
pub mod Written
