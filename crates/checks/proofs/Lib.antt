pub mod Deciding
pub mod Found
pub mod Lengths
pub mod OneWalk
pub mod PickSteps
pub mod Untaken
