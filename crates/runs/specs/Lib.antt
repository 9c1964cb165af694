-- The definitions of crate `runs`, in reading order.
pub mod Run
pub mod Trace
