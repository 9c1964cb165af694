-- The definitions of crate `cases`.
pub mod Cases
pub mod Ours
pub mod Edges
pub mod Supposed
pub mod Every
pub mod Always
pub mod Worked
