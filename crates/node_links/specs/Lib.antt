pub mod Links
pub mod Meetings
pub mod Sides
pub mod Rings
pub mod Lends
