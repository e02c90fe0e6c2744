pub mod LinkLemmas
pub mod SideLemmas
