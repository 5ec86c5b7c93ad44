pub mod Laws
pub mod Line
pub mod Puts
pub mod Text
