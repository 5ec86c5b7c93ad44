pub mod Bytes
pub mod Laws
pub mod Place
pub mod Posting
pub mod Refusal
pub mod Row
