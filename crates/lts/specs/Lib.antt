-- The definitions that contracts cite, and the limits that implementations owe.
pub mod Lists
pub mod Systems
pub mod Rounds
pub mod Bisimulations
pub mod Classes
pub mod Processes
pub mod Labels
pub mod Origins
pub mod Environments
pub mod Groups
pub mod Positions
pub mod Limits
pub mod Reactive
pub mod Attacks
pub mod Relations
pub mod Theorems
