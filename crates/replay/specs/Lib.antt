pub mod Feeding
pub mod Given
pub mod Play
pub mod Replay
pub mod Run
pub mod Said
