pub mod Annals
pub mod Dialled
pub mod Endpoints
