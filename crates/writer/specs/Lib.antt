pub mod Fields
pub mod Filed
pub mod Laws
pub mod Writer
