-- The laws of crate `wording`: each line tells one cause, and what a reader finds in the line of a file.
pub mod Lines
pub mod Told
