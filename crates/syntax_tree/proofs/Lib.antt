pub mod Smaller
pub mod SmallerExpressions
pub mod SmallerSpecs
pub mod Taken
mod SpanLaws
