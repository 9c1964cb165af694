-- The passes over the jobs of a tick that the proofs of the run's functions cite.
mod Passes
