pub mod PlaceLemmas
mod KeyLemmas
pub mod ShortLemmas
pub mod EditLemmas
