pub mod AsNumbers
pub mod Back
pub mod Cases
pub mod Days
pub mod Entries
pub mod Theorems
