pub mod Gone
pub mod Lines
pub mod Short
pub mod Sound
pub mod WaitKinds
