-- The laws of crate `loads`, in the order of its definitions.
pub mod Below
pub mod Order
pub mod LawsOfOne
pub mod Laws
pub mod Change
pub mod Horner
pub mod Column
pub mod Steps
pub mod Rules
