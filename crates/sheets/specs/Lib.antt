-- The definitions that contracts cite.
pub mod Refusals
pub mod Transitions
pub mod Contents
pub mod Held
pub mod Listings
pub mod SheetLimits
pub mod Joins
pub mod JoinLimits
pub mod JoinLaw
pub mod Tallies
