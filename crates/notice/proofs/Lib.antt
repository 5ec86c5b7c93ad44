pub mod Noticing
