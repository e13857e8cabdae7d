pub mod Sums
pub mod Laying
pub mod Keeping
