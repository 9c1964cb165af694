-- The laws of crate `making`, in the order of their proofs.
pub mod BitsShifted
pub mod Bits
pub mod Turns
pub mod Made
pub mod Ordered
pub mod Promises
pub mod Shown
