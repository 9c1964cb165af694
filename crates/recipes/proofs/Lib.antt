-- The laws of crate `recipes`, in the order of their proofs.
pub mod Bytes
pub mod Spelled
pub mod Found
pub mod Cut
pub mod Told
pub mod Shown
