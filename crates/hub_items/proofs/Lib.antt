pub mod Shorts
pub mod WaitKinds
