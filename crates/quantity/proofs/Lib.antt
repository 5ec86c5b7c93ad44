pub mod Integers
pub mod Lists
pub mod Meanings
pub mod Ranges
pub mod Sums
pub mod Tests
pub mod Words
