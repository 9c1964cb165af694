-- The steps and the exits that the proofs of the sheets' functions cite.
pub mod Steps
pub mod Exits
