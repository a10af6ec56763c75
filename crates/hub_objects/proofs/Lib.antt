pub mod Belonging
pub mod JobSets
pub mod Least
pub mod Leaving
pub mod ObjectSets
pub mod Reading
pub mod Releasing
pub mod Taking
