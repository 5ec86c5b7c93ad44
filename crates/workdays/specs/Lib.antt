pub mod Cases
pub mod Count
pub mod Date
pub mod Laws
pub mod Rule
