pub mod Bounds
pub mod FirstSpans
pub mod MadeGraphs
pub mod Naming
