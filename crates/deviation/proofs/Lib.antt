pub mod Overs
pub mod Balance
pub mod Months
pub mod Reports
pub mod Numbers
