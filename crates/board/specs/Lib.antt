-- The definitions of crate `board`, in reading order. `Before` is what the calls were before request 2026-07; `Inner` has words of the proofs alone.
pub mod Boards
pub mod Truth
pub mod Calls
pub mod Words
pub mod Meaning
pub mod Document01
pub mod Releases
pub mod Before
pub mod Inner
