-- The definitions of crate `timeline`, in reading order: the text of a run, the room that it takes, the text of a file, and what a reader finds in it.
pub mod Text
pub mod Room
pub mod Whole
pub mod Meaning
