-- The definitions of crate `writer`, in reading order: the bytes of a system's file, when they are written, what both mean in plain words, and that each file
-- is a beginning after each of its fields.
pub mod File
pub mod Writing
pub mod Inner
pub mod Meaning
pub mod Begun
pub mod RuleByte
