-- The laws that the proofs of the functions on two kinds of engine cite.
pub mod Both
pub mod Own
