-- The theorems of crate `ledger`, in the order of their proofs.
pub mod Kept
pub mod Step
pub mod Demand3
pub mod Before
