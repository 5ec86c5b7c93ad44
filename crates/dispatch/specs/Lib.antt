pub mod Asked
pub mod Laws
