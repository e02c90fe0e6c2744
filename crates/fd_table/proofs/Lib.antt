mod PlaceLemmas
mod CountLemmas
mod HeldLemmas
mod PairLemmas
pub mod EndLemmas
