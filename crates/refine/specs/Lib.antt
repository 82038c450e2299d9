-- The definitions that contracts cite.
pub mod Rows
pub mod Tables
pub mod Codes
pub mod Chains
pub mod Ranks
pub mod Rankings
pub mod Runs
pub mod Copies
pub mod Verdicts
pub mod Censuses
