-- The definitions of crate `making`, in reading order: the generator, the system that a recipe makes and when it is written, what the inner functions
-- promise, what the call promises in plain words, and worked cases.
pub mod Generator
pub mod Making
pub mod Inner
pub mod Meaning
pub mod Cases
