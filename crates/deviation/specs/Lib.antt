pub mod Deviation
pub mod Place
pub mod Month
pub mod Bytes
pub mod Answer
pub mod Gives
pub mod Laws
