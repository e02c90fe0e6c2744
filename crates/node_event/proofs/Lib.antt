pub mod Numbers
pub mod Spelling
pub mod WordLaws
pub mod EventLaws
