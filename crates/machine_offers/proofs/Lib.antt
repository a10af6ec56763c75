pub mod Anys
pub mod Offers
