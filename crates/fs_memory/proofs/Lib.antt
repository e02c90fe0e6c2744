mod BlockLemmas
mod ContentLemmas
mod FileLemmas
mod SearchLemmas
mod TableLemmas
mod BackLemmas
pub mod HolderLemmas
