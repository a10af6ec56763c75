mod Atoms
mod BareLaws
pub mod Begun
mod BlockLaws
pub mod Complete
mod ExpressionLaws
mod InWords
mod Lines
pub mod LongForms
mod Named
mod Parts
mod PhraseLaws
pub mod Placed
pub mod Printing
mod Profiles
pub mod Refused
mod RefusedRows
pub mod Sound
mod SpeltRows
mod Words
mod WordsBack
