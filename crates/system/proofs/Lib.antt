-- The laws of crate `system`, for other crates too. `Fields` has what requests 2026-03, 2026-04, 2026-13 and 2026-14 say of the reader.
pub mod Checks
pub mod Within
pub mod Laws
pub mod CardLaws
pub mod Fields
pub mod Prefix
pub mod Order
pub mod Later
pub mod Begins
pub mod Cards
