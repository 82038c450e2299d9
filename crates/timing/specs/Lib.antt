-- The definitions that contracts cite.
pub mod Fullest
pub mod FullestLimits
