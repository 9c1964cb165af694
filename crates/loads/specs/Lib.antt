-- The definitions of crate `loads`, in reading order.
pub mod Load
pub mod Column
