-- The definitions of crate `answers`, in reading order: what program `sheet_check` says, and what program `sheet` writes.
pub mod Checks
pub mod Sheets
