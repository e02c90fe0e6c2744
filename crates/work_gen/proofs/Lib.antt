pub mod DrawLemmas
pub mod LineLemmas
pub mod ImageLemmas
pub mod TextLemmas
