mod FaultLemmas
pub mod TableLemmas
pub mod MemberLemmas
pub mod NameLemmas
pub mod ClauseTableLemmas
pub mod BuiltLemmas
