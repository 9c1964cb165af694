-- The laws of crate `timeline`: of the code's steps, of the plan's verdict, of what a reader finds in the text of a run, in the listing of its plan and in the text of a file, and of what the program reads.
pub mod Laws
pub mod Verdicts
pub mod Each
pub mod Shown
pub mod Listed
pub mod Told
pub mod Inputs
