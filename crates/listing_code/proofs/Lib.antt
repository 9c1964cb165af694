-- What the proofs of the listing's functions know of `io::decimal`.
pub mod Digits
