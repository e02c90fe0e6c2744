pub mod NumberLemmas
pub mod LineLemmas
pub mod WordLemmas
pub mod TextLemmas
pub mod ReadLemmas
pub mod Chunks
pub mod Printed
