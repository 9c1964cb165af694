-- The laws of crate `clients`.
pub mod Keeps
pub mod Kept
pub mod Plainly
pub mod Read
pub mod Told
pub mod Wide
