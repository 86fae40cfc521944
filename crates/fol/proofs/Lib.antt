pub mod AlikeLists
pub mod Smaller
pub mod DeciderLaws
pub mod DepthLaws
