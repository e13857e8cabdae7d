pub mod Passages
pub mod Sendings
