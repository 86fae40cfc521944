pub mod MemberAfterCommas
pub mod ClauseAfterCommas
