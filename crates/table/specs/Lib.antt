-- The definitions of crate `table`, in reading order.
pub mod Parts
pub mod Pairs
pub mod Table
pub mod Under
pub mod Scan
pub mod Chain
pub mod Meaning
pub mod Releases
pub mod Document01
