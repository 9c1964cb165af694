-- The definitions of crate `deadlines`, in reading order. `Outcome` is what an answer says; `Engine` is what the code is described by; `Meaning` and `Plans`
-- are in words of their own.
pub mod Outcome
pub mod Engine
pub mod Meaning
pub mod Plans
