pub mod Characters
pub mod Signs
pub mod Texts
pub mod Comments
pub mod Spelling
pub mod Reading
pub mod Weight
