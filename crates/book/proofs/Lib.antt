pub mod Places
pub mod Rows
pub mod Postings
pub mod Figures
pub mod Numbers
