pub mod Readers
pub mod ValueReaders
pub mod LineReaders
mod Words
mod Lists
mod Faults
