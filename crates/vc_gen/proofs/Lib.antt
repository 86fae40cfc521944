pub mod Words
pub mod NumberTruth
pub mod RunTruth
pub mod ClauseTruth
pub mod DecideProof
mod KeyLemmas
mod SupposedLemmas
