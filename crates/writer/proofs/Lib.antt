pub mod Answers
pub mod OneAnswer
pub mod Padding
pub mod Theorems
pub mod WriterSteps
pub mod Writing
