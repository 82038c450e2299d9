-- The definitions that contracts cite.
pub mod Pairs
pub mod Holding
