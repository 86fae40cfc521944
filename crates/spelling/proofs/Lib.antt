pub mod Steps
pub mod PatternCommas
pub mod ExpressionCommas
pub mod MemberCommas
pub mod SpecCommas
