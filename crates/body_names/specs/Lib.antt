pub mod Expressions
pub mod Naming
pub mod Statements
