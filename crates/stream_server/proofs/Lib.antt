pub mod Admissions
pub mod Endings
pub mod Faring
pub mod Rising
pub mod Rounding
pub mod Stepping
pub mod Tabling
pub mod Turns
