-- The laws of crate `answers`: lines, what is said of a sheet, where it may be cut, how an input comes apart, and the sheet that is written.
pub mod Lines
pub mod Checked
pub mod Cut
pub mod Parts
pub mod Written
