mod NameFits
mod Equality
pub mod Fronts
pub mod Decimals
pub mod Fieldless
pub mod PlainNumbers
