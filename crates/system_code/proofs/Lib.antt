-- The laws that serve the proofs of the functions alone: `Steps` of the loops, `Goes` of the reader.
pub mod Steps
pub mod Goes
