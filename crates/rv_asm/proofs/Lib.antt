pub mod NumberLemmas
pub mod Pieces
pub mod RangeLemmas
pub mod LineLemmas
pub mod LabelLemmas
pub mod EmitLemmas
pub mod FileLemmas
