pub mod ByForm
pub mod Appending
pub mod Sorting
pub mod FirstPlace
pub mod Judged
