-- The definitions of crate `causes`, in reading order: the causes as tests and what the two calls answer, and what all this means in plain words.
pub mod Causes
pub mod Meaning
