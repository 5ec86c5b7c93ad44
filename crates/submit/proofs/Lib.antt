pub mod Submitting
