mod FaultLemmas
pub mod NumberedLemmas
mod NumberedLaws
pub mod ChainLemmas
mod ChainLaws
mod MarkerLaws
mod UnknownLaws
mod NameLaws
mod TypeLaws
mod VisibleLemmas
mod TypeLemmas
mod TextLemmas
mod LocalLemmas
mod ModuleLemmas
mod BuiltLaws
mod ModuleLaws
pub mod StageLaws
