pub mod Carried
pub mod Filled
pub mod Formatted
pub mod Inputs
pub mod Listed
pub mod OnlyOne
pub mod Stepping
pub mod Written
