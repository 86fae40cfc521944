pub mod Circular
pub mod Edges
pub mod Leading
pub mod Naming
pub mod Within
