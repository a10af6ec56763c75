pub mod SetParts
pub mod Sets
