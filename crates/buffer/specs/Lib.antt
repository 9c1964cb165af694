-- The definitions of crate `buffer`, in reading order.
pub mod Bytes
pub mod Written
