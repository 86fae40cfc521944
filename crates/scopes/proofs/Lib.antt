pub mod DeclaredLaws
pub mod EachLaws
pub mod InnermostLaws
pub mod TypeLists
mod Entries
pub mod Among
pub mod Each
