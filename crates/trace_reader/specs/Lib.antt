pub mod Fronts
pub mod ValueFronts
pub mod LineFronts
pub mod Ranges
pub mod LineLaws
pub mod Reads
pub mod Read
