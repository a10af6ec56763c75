pub mod StreamLaws
mod LimitLaws
