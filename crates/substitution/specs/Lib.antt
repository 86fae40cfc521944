pub mod Free
pub mod Instances
pub mod Blocks
pub mod Replaced
pub mod Numerals
