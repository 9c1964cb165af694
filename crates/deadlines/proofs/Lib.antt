-- The laws of crate `deadlines`.
pub mod Places
pub mod Paced
pub mod Told
pub mod One
pub mod Promises
pub mod FromFile
pub mod Kept
