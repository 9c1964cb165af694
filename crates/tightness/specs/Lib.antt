-- The definitions of crate `tightness`, in reading order: the line by definition, and what a reader finds in it.
pub mod Line
pub mod Meaning
