pub mod FreeLaws
pub mod InstanceTruth
pub mod Lists
pub mod Drops
pub mod InstancesLists
pub mod ReplacedInstance
pub mod NumeralLemmas
