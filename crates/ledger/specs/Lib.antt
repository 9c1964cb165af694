-- The definitions of crate `ledger`, in reading order.
pub mod Ledger
pub mod Demand3
pub mod Before
