pub mod Chosen
pub mod Operands
