pub mod Declarations
pub mod Mention
pub mod Rules
pub mod Layers
