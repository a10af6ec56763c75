pub mod Connection
pub mod Pieces
pub mod Wholes
