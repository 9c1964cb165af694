-- The laws of crate `sheets`, in the order of their proofs.
pub mod Sizes
pub mod Putting
pub mod Back
pub mod Stated
pub mod Sums
pub mod Assigned
pub mod Right
pub mod Promises
pub mod Writes
