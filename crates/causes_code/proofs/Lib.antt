-- The steps and the exits that the proofs of the causes' functions cite.
pub mod Steps
