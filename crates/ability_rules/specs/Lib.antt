pub mod Bodies
pub mod Entries
pub mod Locals
pub mod Nodes
pub mod Missing
pub mod KnownTypes
pub mod Edges
pub mod Rows
