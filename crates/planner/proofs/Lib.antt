-- The laws of crate `planner`.
pub mod Front
pub mod Records
pub mod Exits
pub mod Cases
pub mod Demands
pub mod Listed
pub mod MixedPlans
pub mod Calls
pub mod Releases
pub mod Document01
