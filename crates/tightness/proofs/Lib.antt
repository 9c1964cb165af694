-- The laws of crate `tightness`: for which numbers a file is refused, that one pair of numbers is meant and that a line tells one pair, and what a reader finds in the line of a file.
pub mod Refusals
pub mod Once
pub mod Lines
pub mod Told
