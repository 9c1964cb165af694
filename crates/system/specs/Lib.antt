-- The definitions of crate `system`, in reading order. `Inner` has what contracts of the code's parts cite and document 01 does not speak of.
pub mod Numbers
pub mod Values
pub mod Outcome
pub mod Limits
pub mod Rules
pub mod Layout
pub mod Card
pub mod Fields
pub mod Inner
