pub mod Contracts
pub mod Runs
