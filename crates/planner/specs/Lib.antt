-- The definitions of crate `planner`, in reading order.
pub mod Plan
pub mod Demands
pub mod Mixed
pub mod MixedDemands
pub mod Document01
pub mod Releases
pub mod Inner
