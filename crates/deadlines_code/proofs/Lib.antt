-- The steps that the proofs of the run's functions cite.
pub mod Steps
