-- The definitions of crate `recipes`, in reading order: the text byte by byte, what is written for it, what a reader finds in that, and worked texts.
pub mod Digits
pub mod Output
pub mod Meaning
pub mod Cases
