pub mod Example
pub mod Figures
pub mod Fill
pub mod Laws
pub mod Output
pub mod Parts
