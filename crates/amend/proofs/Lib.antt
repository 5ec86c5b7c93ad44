pub mod Copied
pub mod Logs
pub mod SidesIn
pub mod Stored
pub mod Within
