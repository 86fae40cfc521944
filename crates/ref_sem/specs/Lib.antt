pub mod Semantics
pub mod Bodies
