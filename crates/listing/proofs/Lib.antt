-- The laws of crate `listing`, and document 01's examples of listings.
pub mod Laws
pub mod Examples
pub mod Numbers
pub mod Lines
pub mod Demands
pub mod Tables
pub mod TextOfFile
pub mod Text
