pub mod Hexadecimal
pub mod LineLemmas
pub mod ReportLemmas
pub mod TakenLemmas
mod TextLines
mod VerdictLemmas
pub mod SinkTakenLemmas
