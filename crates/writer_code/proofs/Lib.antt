-- The steps that the proofs of the writer's functions share.
pub mod Steps
