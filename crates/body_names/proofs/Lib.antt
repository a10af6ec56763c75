pub mod Expressions
pub mod Numbers
