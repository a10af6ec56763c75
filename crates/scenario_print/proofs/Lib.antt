pub mod BlockLemmas
pub mod Each
pub mod Heads
pub mod Layers
pub mod TreeLineLemmas
pub mod ScenarioLemmas
pub mod Words
