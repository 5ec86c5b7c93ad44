pub mod Exact
pub mod GivenBack
pub mod Months
pub mod Offsets
pub mod Places
pub mod Refusals
pub mod Summaries
