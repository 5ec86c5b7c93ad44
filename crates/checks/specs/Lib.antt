pub mod Decides
pub mod Lent
pub mod Look
pub mod Picks
pub mod Stepped
pub mod Survey
pub mod Walked
