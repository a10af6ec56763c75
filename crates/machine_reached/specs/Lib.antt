pub mod Bounds
pub mod Few
pub mod Laws
pub mod Meant
pub mod Offers
pub mod Turns
