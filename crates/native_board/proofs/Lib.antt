pub mod Moves
pub mod StepsKeep
pub mod PassesKeep
pub mod Sweeping
pub mod MadeKeep
pub mod TakenLaw
pub mod LostLaw
