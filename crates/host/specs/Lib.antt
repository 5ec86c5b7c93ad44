pub mod Call
pub mod Month
pub mod Replay
