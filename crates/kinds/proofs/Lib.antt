-- The laws of crate `kinds`, in the order of their proofs.
pub mod Padded
pub mod Splits
