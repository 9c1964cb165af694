-- The theorems of crate `causes`, in the order of their proofs.
pub mod Numbers
pub mod Implied
pub mod Tests
pub mod Means
pub mod FromFile
pub mod FromBoard
