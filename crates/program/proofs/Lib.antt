pub mod ListedLaws
pub mod Present
pub mod Firsts
pub mod NumberLemmas
pub mod Common
