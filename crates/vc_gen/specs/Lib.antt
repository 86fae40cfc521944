pub mod Keys
pub mod Decided
pub mod Conditions
pub mod Supposed
