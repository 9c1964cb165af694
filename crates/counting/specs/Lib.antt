-- The definitions of crate `counting`, in reading order: the number of good assignments and the total by their listing, the same number engine by engine as
-- the code finds it, how far its sums over columns reach, what the inner functions promise, what the call promises in plain words, and worked cases.
pub mod Counts
pub mod Tally
pub mod Reach
pub mod Walk
pub mod Meaning
pub mod Cases
