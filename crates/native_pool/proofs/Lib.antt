pub mod DeskKeeps
pub mod JobLemmas
pub mod DeskSteps
pub mod StartSteps
pub mod StopSteps
pub mod PoolSteps
pub mod AnswerSteps
