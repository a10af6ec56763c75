pub mod AnswerLaws
pub mod Appending
pub mod Cuts
pub mod ProgressLaws
pub mod ProgressSteps
pub mod SessionLaws
