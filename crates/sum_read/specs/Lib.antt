pub mod FormFault
pub mod Each
pub mod Sums
pub mod Clauses
pub mod Functions
