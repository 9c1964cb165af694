-- The definitions of crate `kinds`, in reading order.
pub mod Mixing
pub mod Inner
