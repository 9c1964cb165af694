-- The definitions of crate `clients`.
pub mod Wide
pub mod Answers
