-- The lemmas of this crate.
mod Chains
