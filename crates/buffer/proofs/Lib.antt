-- The laws of crate `buffer`.
pub mod Laws
