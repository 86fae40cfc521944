pub mod Moves
pub mod Marks
pub mod Names
pub mod Nodes
pub mod Applications
pub mod Lengths
pub mod Answers
