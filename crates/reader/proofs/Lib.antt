pub mod Filling
pub mod FromFile
pub mod ReaderSteps
pub mod Theorems
