-- The lemmas, and the computed test.
pub mod Rounds
pub mod Reached
pub mod Checks
