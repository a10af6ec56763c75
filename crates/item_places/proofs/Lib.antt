pub mod ItemLemmas
pub mod TableLemmas
