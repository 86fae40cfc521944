pub mod Plain
pub mod Ranges
pub mod Known
pub mod Families
