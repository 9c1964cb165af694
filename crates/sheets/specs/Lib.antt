-- The definitions of crate `sheets`, in reading order: the bytes of a sheet, when a plan is written as one, when a sheet is right, and what all this means in
-- plain words.
pub mod Sheet
pub mod Writing
pub mod Checking
pub mod Meaning
