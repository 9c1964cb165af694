-- The laws of crate `runs`.
pub mod Owed
pub mod Steps
pub mod Choice
pub mod Trace
pub mod Reports
pub mod Words
pub mod Examples
