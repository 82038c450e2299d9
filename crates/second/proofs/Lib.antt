-- Lemmas of the crate.
pub mod Rows
