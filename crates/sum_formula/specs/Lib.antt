pub mod Translation
pub mod Premises
