-- The theorems of crate `cases`.
pub mod Shown
pub mod OursShown
pub mod EdgesShown
pub mod SupposedShown
pub mod EveryShown
pub mod CellsShown
pub mod WorkedShown
pub mod AlwaysShown
