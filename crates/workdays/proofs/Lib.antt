pub mod Cases
pub mod Counts
pub mod Entries
pub mod Lengths
pub mod Listed
pub mod Ranges
pub mod Reckoning
pub mod Walking
