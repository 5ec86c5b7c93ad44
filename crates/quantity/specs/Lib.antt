pub mod Limits
pub mod Lists
pub mod Meaning
pub mod Sum
pub mod Word
