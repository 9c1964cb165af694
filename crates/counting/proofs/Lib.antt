-- The laws of crate `counting`, in the order of their proofs.
pub mod Sums
pub mod Pascal
pub mod Totals
pub mod Split
pub mod Tallied
pub mod Strides
pub mod Columns
pub mod Counted
pub mod Ordered
pub mod Walked
pub mod Turns
pub mod Rows
pub mod FromFile
pub mod Shown
