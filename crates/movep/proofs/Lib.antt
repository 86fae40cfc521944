-- Lemmas of the proofs.
pub mod ReadLemmas
pub mod WordLemmas
