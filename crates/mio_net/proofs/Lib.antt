pub mod DialLemmas
pub mod EndpointLemmas
