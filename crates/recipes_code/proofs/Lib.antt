-- What each exit of the functions promises, which their proofs cite.
pub mod Exits
