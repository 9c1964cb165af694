-- The definitions of crate `listing`, in reading order.
pub mod Listing
pub mod Room
pub mod Demands
pub mod Text
