pub mod Plan
pub mod Machine
pub mod Policy
pub mod Laws
