pub mod CodeFirsts
pub mod Groups
pub mod Pushed
pub mod Renamed
pub mod Splits
pub mod Steps
pub mod KnownTypes
pub mod Typings
pub mod FaultLaws
pub mod SpecFirsts
pub mod IncludedLaws
pub mod NumberLaws
pub mod RootLaws
pub mod Including
pub mod Judging
pub mod Moved
pub mod Owning
pub mod Placing
pub mod Unique
pub mod Closures
pub mod InstanceLaws
pub mod KeyLaws
pub mod LeadingLaws
pub mod LevelLaws
pub mod LinkLaws
pub mod SchemasLists
pub mod PathLaws
pub mod PresentLaws
mod Chains
mod Rules
mod Included
mod TypedProgramLists
mod LocalLaws
mod Owners
mod Settled
