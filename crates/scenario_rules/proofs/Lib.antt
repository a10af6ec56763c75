mod Conserved
pub mod Layers
mod Rows
mod RuleReasons
