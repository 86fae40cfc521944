pub mod Applications
pub mod Trees
pub mod Decisions
pub mod Ends
