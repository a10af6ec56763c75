pub mod KindLemmas
pub mod Bodies
pub mod WellFormed
