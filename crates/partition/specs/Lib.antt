-- The definitions of crate `partition`, in reading order.
pub mod Assignment
pub mod OwnWords
pub mod Listing
pub mod Cell
pub mod Shares
pub mod ForSystem
pub mod Kinds
pub mod Lent
pub mod Plain
pub mod PlainKinds
pub mod Releases
pub mod ReleaseCases
